-- What only inner functions and proofs need.
pub mod Parts
pub mod Settled
pub mod Ends
pub mod Runs
