pub mod Deciding
pub mod Bounds
pub mod Living
pub mod Fronts
