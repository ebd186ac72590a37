pub mod Counters
pub mod Published
pub mod Laws
pub mod Buffers
