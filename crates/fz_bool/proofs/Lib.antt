pub mod Looks
pub mod Within
pub mod Falsing
pub mod Clausal
pub mod Sayings
pub mod Odd
pub mod Parities
pub mod Ends
