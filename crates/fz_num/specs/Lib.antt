pub mod Spans
pub mod Quotients
