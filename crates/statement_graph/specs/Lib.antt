pub mod Successors
pub mod Statements
pub mod Kept
