pub mod Chosen
pub mod Permutes
pub mod Printed
pub mod Sessions
