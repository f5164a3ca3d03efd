pub mod Texts
pub mod Printed
pub mod Gathered
pub mod Gatherings
