pub mod Ring
pub mod inner
pub mod Asked
pub mod Ends
pub mod Receiving
