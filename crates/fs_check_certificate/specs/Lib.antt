pub mod Cycles
pub mod Held
pub mod Breaks
pub mod Leaves
pub mod Checks
pub mod Shown
pub mod inner
