pub mod Numbers
pub mod Texts
pub mod Once
pub mod Lines
pub mod Lists
