pub mod Dividing
pub mod Covering
pub mod Weighing
pub mod Fronts
