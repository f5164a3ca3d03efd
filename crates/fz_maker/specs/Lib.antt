pub mod Making
pub mod Inside
pub mod Taken
