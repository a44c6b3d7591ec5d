pub mod Crosses
pub mod Faults
pub mod Outcomes
