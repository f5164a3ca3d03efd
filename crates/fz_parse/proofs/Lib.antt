pub mod Follows
pub mod Takes
pub mod Lists
pub mod Depths
pub mod Putting
pub mod Verdicts
