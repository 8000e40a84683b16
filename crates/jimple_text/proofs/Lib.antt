pub mod Left
pub mod Told
pub mod Lexed
pub mod Formed
