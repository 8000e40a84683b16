pub mod Signature
pub mod Reading
pub mod Lists
pub mod ReadingLists
