pub mod Windows
pub mod Choosing
pub mod Ordering
pub mod Loads
pub mod Places
pub mod Pairs
pub mod Shared
