pub mod Tries
pub mod Answers
pub mod Priced
pub mod Histories
pub mod inner
