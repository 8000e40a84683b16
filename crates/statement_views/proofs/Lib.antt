pub mod Opened
pub mod Seeing
