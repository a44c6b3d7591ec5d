pub mod Faults
pub mod Placements
pub mod OrderFaults
