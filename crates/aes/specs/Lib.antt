pub mod State
pub mod Cipher
pub mod Keyed
pub mod Images
pub mod Permutes
