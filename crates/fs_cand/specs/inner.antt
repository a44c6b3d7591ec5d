-- What only proofs need.
pub mod NamedOrder
