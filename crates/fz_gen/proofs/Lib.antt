mod Cuts
mod Spelling
mod Texts
mod Written
mod Fitting
mod Trees
mod Spelt
mod Kept
mod Faultless
pub mod Law
mod Ranges
mod Pieces
