pub mod Depths
pub mod Whole
pub mod Values
pub mod Steps
