pub mod Masks
pub mod Tracker
