pub mod Looks
pub mod Clausal
pub mod Parity
