pub mod Choosing
pub mod Knowing
pub mod Learning
mod Leaving
pub mod Paths
pub mod Falls
pub mod Cuts
pub mod Commits
pub mod Parts
pub mod Told
pub mod Takes
mod Copies
mod Walking
pub mod Fixed
pub mod Below
