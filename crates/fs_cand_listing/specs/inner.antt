-- What only inner functions and proofs need.
pub mod Listed
pub mod Chosen
pub mod Totals
pub mod Tested
pub mod Places
pub mod Ordered
