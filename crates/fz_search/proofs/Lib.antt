pub mod Searches
pub mod Workers
pub mod OnAssets
