pub mod Told
pub mod Cuts
pub mod Stores
pub mod Answers
pub mod Outcomes
pub mod Truths
pub mod Matching
