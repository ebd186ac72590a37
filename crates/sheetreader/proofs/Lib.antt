pub mod Rows
pub mod Steps
pub mod Sums
pub mod Whole
