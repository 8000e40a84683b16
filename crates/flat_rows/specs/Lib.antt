pub mod Rows
pub mod Converse
pub mod Chains
