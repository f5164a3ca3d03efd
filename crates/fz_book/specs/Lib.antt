pub mod Room
pub mod Inside
pub mod Places
pub mod Outcomes
pub mod Needs
pub mod Offering
pub mod Recorded
pub mod Reports
