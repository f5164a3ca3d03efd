pub mod Runs
pub mod Numbers
pub mod NumberTokens
pub mod Signs
pub mod Strings
pub mod Founds
pub mod Gaps
pub mod Aheads
