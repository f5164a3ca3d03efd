pub mod Trails
pub mod Places
pub mod Decisions
pub mod Nodes
