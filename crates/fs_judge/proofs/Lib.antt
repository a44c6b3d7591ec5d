pub mod Caused
pub mod ByOrder
pub mod Linked
pub mod Prepared
pub mod Conditions
