pub mod Values
pub mod Picks
pub mod Plans
pub mod Shown
pub mod Keeping
