pub mod Among
pub mod Earlier
pub mod Final
pub mod Ordered
