pub mod Faults
pub mod Laws
pub mod Lines
pub mod Sheets
