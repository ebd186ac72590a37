pub mod Raises
pub mod Cells
pub mod Kept
