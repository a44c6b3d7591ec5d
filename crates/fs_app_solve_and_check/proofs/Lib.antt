pub mod Founding
pub mod SolveFaults
pub mod CheckFaults
pub mod Given
pub mod Whole
