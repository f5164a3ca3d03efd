pub mod Subjects
pub mod NewsOf
