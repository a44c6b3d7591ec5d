pub mod Breaks
pub mod Written
