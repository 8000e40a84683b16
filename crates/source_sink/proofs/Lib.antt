pub mod Steps
pub mod Sound
pub mod Loops
pub mod Whole
pub mod Exact
pub mod Marked
pub mod Lines
pub mod Named
