pub mod Matrices
pub mod Chains
