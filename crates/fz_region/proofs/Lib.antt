pub mod Values
pub mod Each
pub mod AtPlace
pub mod Settled
pub mod InPieces
