pub mod ByLength
pub mod Digits
pub mod Tables
