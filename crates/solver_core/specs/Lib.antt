pub mod Store
pub mod Numbers
pub mod Hands
pub mod Joins
pub mod Seen
pub mod Answers
pub mod Gathered
pub mod Room
