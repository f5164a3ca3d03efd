pub mod Entries
pub mod Plain
