pub mod Giving
pub mod Faults
