pub mod States
pub mod inner
pub mod Limit
pub mod Vacuous
