pub mod Deciding
pub mod Shown
pub mod Fronts
