pub mod Picking
pub mod Numbers
pub mod Choosing
pub mod Starting
pub mod Keeping
pub mod Showing
pub mod Rows
pub mod Whole
