-- What only inner functions and proofs need.
pub mod Breaks
pub mod Fills
