pub mod Leasts
pub mod Keeping
