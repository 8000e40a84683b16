pub mod Bytes
pub mod Kind
pub mod Kinds
pub mod Sets
