pub mod Divisions
pub mod Parted
pub mod Quotients
pub mod Squares
pub mod Sides
