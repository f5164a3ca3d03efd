pub mod Terms
pub mod Sides
pub mod Passes
pub mod Sums
pub mod Gaps
pub mod Precisions
pub mod Shapes
pub mod Linears
