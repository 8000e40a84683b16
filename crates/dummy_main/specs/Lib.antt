pub mod Lifecycle
pub mod Paths
pub mod Means
pub mod Layout
pub mod Listing
pub mod ReadingList
