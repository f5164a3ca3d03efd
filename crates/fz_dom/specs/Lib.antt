pub mod Shape
pub mod Union
pub mod Places
pub mod Heads
pub mod Changes
pub mod Kept
pub mod Wide
pub mod Left
