pub mod Walks
pub mod Searches
pub mod Stretches
pub mod Streamed
