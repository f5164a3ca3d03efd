pub mod Shown
pub mod Guesses
