pub mod Hash
pub mod Running
