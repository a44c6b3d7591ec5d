-- What only inner functions and proofs need.
pub mod Links
pub mod Bases
pub mod Findings
