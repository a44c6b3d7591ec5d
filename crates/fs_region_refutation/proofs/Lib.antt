pub mod Alike
mod Asked
pub mod Each
pub mod Listed
pub mod Lists
pub mod Pairs
mod Quiet
pub mod Regions
pub mod Rises
pub mod Whole
pub mod Chains
pub mod Stacks
pub mod Walked
mod Joined
mod Kept
mod Closed
mod Accesses
mod AskedRuns
pub mod Columns
mod Firsts
mod Found
mod ListedRuns
mod Named
mod Others
mod Positions
pub mod Programs
mod ReadyRuns
mod Sources
