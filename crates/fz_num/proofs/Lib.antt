pub mod Products
pub mod Hulls
pub mod Euclid
