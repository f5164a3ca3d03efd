pub mod Different
pub mod Lengths
pub mod Lefts
pub mod Keeping
pub mod Lines
