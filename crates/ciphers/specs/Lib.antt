pub mod Keys
pub mod Practices
pub mod Practiced
