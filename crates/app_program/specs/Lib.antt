pub mod Entry
pub mod Program
pub mod Faults
pub mod Ends
pub mod Gathered
