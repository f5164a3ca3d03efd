pub mod Parts
pub mod Words
pub mod Texts
pub mod Laws
