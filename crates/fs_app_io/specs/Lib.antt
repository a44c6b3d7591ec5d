pub mod Lines
pub mod Paths
pub mod Bytes
pub mod Status
pub mod Unread
