pub mod Schedules
pub mod Jobs
pub mod Outcomes
