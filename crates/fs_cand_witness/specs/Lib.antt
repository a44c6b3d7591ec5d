pub mod Edges
pub mod Orders
pub mod Judged
pub mod Fencing
pub mod Naming
pub mod inner
