-- What only inner functions and proofs need.
pub mod Parts
pub mod Objects
pub mod Reading
