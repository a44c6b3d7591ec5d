-- What only inner functions and proofs need.
pub mod Short
