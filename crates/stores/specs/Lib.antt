pub mod Store
pub mod Readings
pub mod Registers
pub mod Strips
