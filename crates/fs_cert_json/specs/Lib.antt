pub mod Kept
pub mod inner
