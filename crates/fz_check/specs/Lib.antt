pub mod Fits
pub mod Calls
pub mod Checked
pub mod Drafts
pub mod Entered
pub mod Parts
pub mod Rows
