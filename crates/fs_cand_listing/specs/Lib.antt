pub mod Ways
pub mod RawCandidates
pub mod ShowingTests
pub mod Showing
pub mod inner
