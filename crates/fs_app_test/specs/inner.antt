-- What only inner functions and proofs need.
pub mod Objects
pub mod Parts
pub mod Vacuities
