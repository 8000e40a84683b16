pub mod Before
pub mod Listing
pub mod Meeting
pub mod Only
pub mod Ordered
pub mod Resolved
pub mod Saying
pub mod Knowing
