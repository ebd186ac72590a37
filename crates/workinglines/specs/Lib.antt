pub mod Printed
pub mod Replies
pub mod Topics
