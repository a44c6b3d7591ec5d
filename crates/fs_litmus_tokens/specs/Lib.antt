pub mod Bytes
pub mod Words
pub mod Numbers
pub mod Tokens
pub mod Few
pub mod Sections
pub mod Values
