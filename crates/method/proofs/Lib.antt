pub mod Closed
pub mod Joined
pub mod Undone
pub mod Kept
