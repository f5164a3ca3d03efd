pub mod Extremes
pub mod Narrowing
pub mod Products
