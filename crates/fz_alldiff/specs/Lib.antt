pub mod Differing
pub mod Freeing
pub mod Ends
pub mod Settled
