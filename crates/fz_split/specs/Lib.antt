pub mod Splits
pub mod Divisions
pub mod Weights
pub mod Fronts
