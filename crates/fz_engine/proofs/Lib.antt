pub mod Running
mod Advancing
mod Listing
mod Watching
mod Queuing
mod Shapes
mod Totals
pub mod Posting
