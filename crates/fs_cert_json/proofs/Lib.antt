pub mod Handed
pub mod Inferences
pub mod Lists
pub mod Parts
pub mod Says
pub mod Shapes
pub mod Steps
pub mod Texts
