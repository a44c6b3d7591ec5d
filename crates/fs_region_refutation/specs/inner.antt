-- What only inner functions and proofs need.
pub mod Asked
pub mod Each
pub mod Pairs
pub mod Stacks
pub mod Ordered
pub mod Tables
