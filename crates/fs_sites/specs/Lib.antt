pub mod Questions
pub mod Alone
pub mod Answers
pub mod inner
pub mod Plans
pub mod Sinking
pub mod Walks
