pub mod Numbers
pub mod Parses
pub mod Rules
pub mod Together
