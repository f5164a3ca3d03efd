pub mod Spans
pub mod Differences
pub mod Planes
pub mod Points
