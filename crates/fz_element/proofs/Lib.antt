pub mod Pairing
pub mod Keeping
pub mod Matching
pub mod Narrowing
