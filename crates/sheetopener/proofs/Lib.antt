pub mod Accepted
pub mod Bodies
pub mod Opened
pub mod Placed
pub mod Proved
