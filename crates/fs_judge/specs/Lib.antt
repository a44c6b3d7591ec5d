pub mod Verdicts
pub mod inner
