pub mod Intervals
pub mod Lefts
pub mod Seats
pub mod Counts
