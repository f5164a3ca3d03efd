pub mod Stronger
pub mod Networks
pub mod Runs
pub mod Steps
