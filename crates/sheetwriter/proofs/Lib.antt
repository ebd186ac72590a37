pub mod Bodies
pub mod Puts
pub mod Spelt
pub mod Writes
