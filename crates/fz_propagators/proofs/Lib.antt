pub mod Values
pub mod Waiting
