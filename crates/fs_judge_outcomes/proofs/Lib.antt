pub mod Halves
mod Kept
pub mod Balanced
pub mod Asking
pub mod Covered
mod Learning
mod Many
pub mod Settling
pub mod Searching
pub mod Numbered
pub mod Chosen
pub mod Equal
pub mod Seen
pub mod Words
pub mod Registers
pub mod Ways
pub mod Counted
pub mod Forbidden
