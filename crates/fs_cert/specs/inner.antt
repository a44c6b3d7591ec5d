-- What only inner functions and proofs need.
pub mod Copies
pub mod Fenced
pub mod Items
