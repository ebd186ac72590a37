pub mod Bytes
pub mod Numbers
pub mod Spelt
pub mod Tables
pub mod Xors
