pub mod Words
pub mod Windows
pub mod Members
