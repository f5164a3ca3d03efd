pub mod Laws
pub mod Knapsack
