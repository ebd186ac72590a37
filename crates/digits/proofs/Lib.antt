pub mod Blocks
pub mod Hexes
pub mod Numbers
pub mod Pairs
