pub mod Fronts
pub mod Counts
pub mod PrintLaws
pub mod Gathering
