pub mod Device
pub mod Exact
pub mod Fields
pub mod Limits
pub mod Lists
pub mod Memory
pub mod Shelves
