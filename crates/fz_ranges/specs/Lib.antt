pub mod Sizes
pub mod Ranges
pub mod Roots
