-- What only inner functions and proofs need.
pub mod Breaking
pub mod WitnessRuns
