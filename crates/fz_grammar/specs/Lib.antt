pub mod Grammar
pub mod Reading
pub mod Levels
pub mod Tables
pub mod Verdict
pub mod Carried
pub mod Weighed
pub mod Lefts
