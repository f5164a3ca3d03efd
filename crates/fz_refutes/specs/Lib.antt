pub mod Certain
pub mod Boxes
pub mod Refuted
pub mod Trees
pub mod Texts
pub mod Laws
pub mod Smalls
pub mod Makers
