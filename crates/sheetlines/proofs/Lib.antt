pub mod Complete
pub mod Proved
pub mod Ranges
pub mod Sizes
pub mod Sound
pub mod Widths
