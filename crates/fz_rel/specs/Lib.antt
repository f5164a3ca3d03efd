pub mod Truths
pub mod Members
pub mod Ends
pub mod Reified
pub mod Seen
