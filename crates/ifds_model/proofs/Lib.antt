mod Back
pub mod Members
pub mod Quiet
pub mod Begun
pub mod Requeued
pub mod Retired
pub mod Kept
pub mod Happened
pub mod Composed
