pub mod Tokens
pub mod Numbered
pub mod Showing
pub mod Meaning
pub mod Answering
pub mod Whole
mod Pieces
mod Onward
mod Reading
mod Joined
pub mod Tallying
pub mod Matching
pub mod Lacking
pub mod Blocks
pub mod Results
pub mod Naming
