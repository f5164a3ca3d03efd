mod Waiting
mod Known
pub mod Fitting
pub mod Suiting
mod Checking
