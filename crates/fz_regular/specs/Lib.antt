pub mod BitRows
pub mod Runs
pub mod Layers
pub mod Fronts
