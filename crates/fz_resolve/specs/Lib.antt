pub mod Arrays
pub mod Meant
