pub mod Takings
pub mod Unclaimed
pub mod Behind
pub mod Claiming
