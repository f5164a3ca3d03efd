pub mod Decisions
mod Trying
mod Refuting
mod Fitting
pub mod Growing
pub mod Halves
pub mod Hulls
pub mod Insides
mod Sums
pub mod Soundness
pub mod Preorder
mod One
pub mod Truths
pub mod Opening
pub mod Agreeing
pub mod Lone
pub mod Shrinking
pub mod Making
pub mod Within
