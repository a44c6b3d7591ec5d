pub mod TestFaults
pub mod Texts
pub mod Whole
pub mod Growing
pub mod Paired
