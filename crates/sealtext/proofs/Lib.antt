pub mod Answered
pub mod Begins
pub mod Decodes
pub mod Ends
pub mod Fronts
pub mod Sealings
pub mod Sheets
