pub mod Assigning
pub mod Partners
pub mod Turning
pub mod Parts
pub mod Thirds
pub mod Lessening
pub mod Finding
pub mod Keeping
