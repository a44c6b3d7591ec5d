pub mod Kinds
pub mod Executions
pub mod Told
pub mod Quoted
pub mod Dot
pub mod Chains
pub mod Pictures
