-- What only inner functions and proofs need.
pub mod Made
pub mod Named
pub mod Yes
