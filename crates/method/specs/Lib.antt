pub mod Laws
pub mod Limits
pub mod Published
pub mod Sheets
