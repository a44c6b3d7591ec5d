pub mod Certified
pub mod Cycles
pub mod inner
