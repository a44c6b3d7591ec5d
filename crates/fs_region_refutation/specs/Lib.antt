pub mod Orders
pub mod Runs
pub mod Subtrees
pub mod Views
pub mod inner
pub mod Alone
pub mod Beside
