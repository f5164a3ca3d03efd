pub mod Tasks
pub mod Findings
pub mod Cumulatives
pub mod Outcomes
pub mod Energies
