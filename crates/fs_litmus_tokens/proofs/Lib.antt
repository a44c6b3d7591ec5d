pub mod Reading
pub mod Letters
pub mod FewLemmas
pub mod Numerals
pub mod Scans
pub mod Sequences
