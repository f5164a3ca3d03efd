pub mod Joins
pub mod Joining
pub mod Parting
pub mod Machine
pub mod Tallies
pub mod Checking
pub mod After
