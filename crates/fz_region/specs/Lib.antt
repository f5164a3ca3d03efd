pub mod Each
pub mod Alternatives
pub mod Places
pub mod Pieces
