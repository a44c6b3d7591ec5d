pub mod Kept
pub mod Fences
pub mod Rewritten
pub mod Added
pub mod Inserted
