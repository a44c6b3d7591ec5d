pub mod Solve
pub mod Found
pub mod inner
pub mod Check
