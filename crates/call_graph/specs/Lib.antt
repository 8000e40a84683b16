pub mod ByNumber
pub mod Calls
pub mod Floods
pub mod Graphs
pub mod Known
