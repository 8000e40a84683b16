pub mod Grammar
pub mod Reading
pub mod Gives
pub mod Forms
pub mod Stops
pub mod Lexemes
pub mod AsWritten
pub mod Fits
