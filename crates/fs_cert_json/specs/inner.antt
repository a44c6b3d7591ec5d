-- What only inner functions and proofs need.
pub mod Leaves
pub mod Operands
pub mod Sections
pub mod Written
