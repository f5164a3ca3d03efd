pub mod Cores
pub mod Events
pub mod Lawfulness
pub mod Laws
pub mod Runs
pub mod Schedule
pub mod Measure
pub mod Portfolios
