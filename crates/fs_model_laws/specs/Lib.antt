pub mod Answers
pub mod Bounds
pub mod Fenced
pub mod Letters
pub mod Strength
pub mod InPlace
