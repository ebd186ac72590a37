pub mod Counts
pub mod Figures
pub mod Parts
pub mod Streams
pub mod Uses
