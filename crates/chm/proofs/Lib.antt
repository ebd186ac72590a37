pub mod Helds
pub mod Keeps
pub mod Parts
pub mod Pieces
pub mod Sealings
