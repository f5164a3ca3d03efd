pub mod Walks
mod Searching
mod Stretching
pub mod Moves
pub mod Advances
