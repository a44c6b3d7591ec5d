pub mod Decide
pub mod Local
