pub mod Building
pub mod LeftRows
pub mod Keeping
pub mod Coupling
pub mod TwoColumns
pub mod PairWords
