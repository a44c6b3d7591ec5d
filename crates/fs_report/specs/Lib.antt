pub mod Given
pub mod Objects
pub mod Cells
pub mod Nullable
pub mod inner
