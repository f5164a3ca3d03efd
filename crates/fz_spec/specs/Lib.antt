pub mod Signatures
pub mod Truth
pub mod Constraints
pub mod Instance
pub mod Codes
pub mod Run
pub mod Laws
