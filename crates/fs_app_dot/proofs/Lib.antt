pub mod OfBytes
pub mod Several
