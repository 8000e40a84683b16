pub mod Listed
pub mod Numbered
pub mod Pooled
pub mod Paged
pub mod Adding
pub mod Decoded
pub mod Counted
pub mod Stored
