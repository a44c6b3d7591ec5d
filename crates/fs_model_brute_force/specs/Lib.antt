pub mod Among
pub mod Decisions
pub mod Allowing
pub mod Whole
pub mod inner
