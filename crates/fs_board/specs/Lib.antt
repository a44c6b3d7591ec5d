pub mod Growth
pub mod View
pub mod Asking
pub mod Counts
pub mod inner
