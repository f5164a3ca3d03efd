pub mod Wording
pub mod Reading
pub mod Meeting
pub mod Listing
pub mod Tasks
