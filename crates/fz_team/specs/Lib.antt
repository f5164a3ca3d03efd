pub mod Members
pub mod Sections
pub mod Ends
pub mod OwnCuts
pub mod Shares
