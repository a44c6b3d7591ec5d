pub mod Growing
pub mod Distinct
pub mod NamedOrder
pub mod RunNames
