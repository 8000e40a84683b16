pub mod Texts
pub mod Scope
pub mod Tree
pub mod Faults
pub mod Named
pub mod Resolving
pub mod Walking
pub mod Keys
