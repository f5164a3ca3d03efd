pub mod Declared
pub mod ListLaws
pub mod Sizes
pub mod SumLaws
pub mod TaskLaws
pub mod Exchanges
mod RunLaws
mod CountLaws
mod InverseLaws
