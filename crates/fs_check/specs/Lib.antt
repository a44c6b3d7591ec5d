pub mod Ordered
pub mod Verdicts
pub mod inner
