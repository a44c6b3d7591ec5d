pub mod Between
pub mod Bits
pub mod Chains
pub mod OneMore
pub mod Tracked
pub mod Listed
