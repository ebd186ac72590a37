pub mod Inputs
pub mod Seals
pub mod Texts
