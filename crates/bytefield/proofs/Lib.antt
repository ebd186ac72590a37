pub mod Additive
pub mod Mixes
pub mod Subs
