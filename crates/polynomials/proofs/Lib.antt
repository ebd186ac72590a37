pub mod Products
pub mod Remainders
pub mod Ring
pub mod Sums
