pub mod Dense
pub mod Indexes
pub mod Packed
pub mod Spans
pub mod Supports
pub mod Grids
pub mod Lines
pub mod Apart
