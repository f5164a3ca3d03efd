pub mod Agreeing
pub mod Automata
mod Rows
