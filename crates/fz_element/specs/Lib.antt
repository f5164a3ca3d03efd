pub mod Selecting
pub mod Matching
