pub mod Axioms
pub mod Listed
pub mod Earlier
pub mod Counted
pub mod Sources
pub mod Registers
