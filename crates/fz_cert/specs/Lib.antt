pub mod Walks
pub mod Steps
pub mod Guesses
pub mod Areas
