pub mod Candidates
pub mod inner
