pub mod Fronts
pub mod Images
pub mod Sheets
pub mod Calls
