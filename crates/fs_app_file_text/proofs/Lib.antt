pub mod Comparing
pub mod Marked
pub mod Unfenced
pub mod Rereading
