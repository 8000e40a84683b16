pub mod Adds
pub mod Pages
pub mod Pool
pub mod Store
pub mod Table
