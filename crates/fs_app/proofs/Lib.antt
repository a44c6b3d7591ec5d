pub mod Told
pub mod Spoken
pub mod Written
