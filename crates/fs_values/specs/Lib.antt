pub mod ThinAir
pub mod Readings
pub mod Sets
pub mod Rounds
pub mod AllRuns
pub mod inner
