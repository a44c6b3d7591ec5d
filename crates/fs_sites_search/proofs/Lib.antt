pub mod Faults
pub mod Asked
pub mod Crosses
pub mod Outcomes
