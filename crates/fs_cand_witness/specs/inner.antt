-- What only inner functions and proofs need.
pub mod Halves
pub mod Keeping
pub mod Reading
pub mod Widening
pub mod Paths
