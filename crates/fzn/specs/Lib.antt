pub mod Asked
pub mod Promises
pub mod Steps
pub mod Complaints
pub mod Begun
pub mod Whole
