pub mod Fields
pub mod Chains
pub mod Numbers
pub mod Sigs
pub mod Kept
