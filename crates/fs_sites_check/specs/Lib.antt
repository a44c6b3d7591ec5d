pub mod Valid
pub mod Verdicts
