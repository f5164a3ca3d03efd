mod Outcomes
mod Passing
