pub mod Linked
pub mod Moves
pub mod Rings
pub mod Agreeing
pub mod Comparing
pub mod Telling
