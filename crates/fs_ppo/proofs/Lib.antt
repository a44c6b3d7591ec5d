pub mod Tests
pub mod Made
pub mod Between
pub mod Groups
