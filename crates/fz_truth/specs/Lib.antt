pub mod Automata
pub mod Listed
