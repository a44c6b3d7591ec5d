-- What only inner functions and proofs need.
pub mod Groups
pub mod Parts
