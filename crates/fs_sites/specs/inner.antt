-- What only inner functions and proofs need.
pub mod Bars
pub mod Fills
