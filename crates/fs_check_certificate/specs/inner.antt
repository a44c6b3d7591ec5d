-- What only inner functions and proofs need.
pub mod Bearing
pub mod Filled
pub mod Walks
pub mod Judgements
