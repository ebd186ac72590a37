pub mod Ends
pub mod Held
pub mod Laws
pub mod Runs
pub mod Slots
