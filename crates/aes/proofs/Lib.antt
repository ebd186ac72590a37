pub mod Agree
pub mod Begun
