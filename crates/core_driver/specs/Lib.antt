pub mod More
pub mod Driven
pub mod Played
