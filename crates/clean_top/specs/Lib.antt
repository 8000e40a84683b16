pub mod Answer
pub mod Count
pub mod Graph
pub mod Meaning
pub mod Reading
pub mod Status
pub mod Words
