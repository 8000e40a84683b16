pub mod Places
pub mod Gathered
pub mod Rowed
pub mod Standing
pub mod Listing
pub mod Ends
