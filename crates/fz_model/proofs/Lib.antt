pub mod Same
pub mod Mapped
pub mod Names
pub mod Numbered
