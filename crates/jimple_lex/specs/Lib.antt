pub mod Bytes
pub mod Forms
pub mod Tokens
pub mod Lexed
pub mod Faults
pub mod Ends
pub mod Front
pub mod Signs
