pub mod Sets
pub mod Calling
pub mod Splits
