pub mod Clearing
pub mod Removing
pub mod Resting
pub mod Spanning
pub mod Freeing
pub mod Filling
pub mod Between
pub mod Settling
