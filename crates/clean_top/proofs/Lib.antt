pub mod Among
pub mod Appended
pub mod Asked
pub mod ReadSo
pub mod Served
pub mod Worked
