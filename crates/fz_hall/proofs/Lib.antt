pub mod Crowding
pub mod Seating
pub mod Turning
pub mod Pairs
pub mod Tallies
pub mod Reaching
pub mod Confining
pub mod Outside
