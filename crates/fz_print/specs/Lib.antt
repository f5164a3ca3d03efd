pub mod Ending
pub mod Refusal
