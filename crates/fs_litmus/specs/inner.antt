-- What only inner functions and proofs need.
pub mod Kept
pub mod Sections
pub mod Printable
pub mod Written
pub mod Fronts
