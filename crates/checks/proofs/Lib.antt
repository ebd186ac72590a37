pub mod Checks
pub mod Gaps
pub mod Parts
pub mod Proved
pub mod Tags
