pub mod Answered
pub mod Ended
pub mod Holes
pub mod Proved
pub mod Reach
pub mod Rooms
pub mod Soundness
