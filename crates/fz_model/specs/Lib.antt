pub mod Lists
pub mod Arguments
pub mod Groups
pub mod Kept
