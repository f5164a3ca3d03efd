pub mod Equations
pub mod Found
