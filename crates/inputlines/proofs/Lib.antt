pub mod Feeds
pub mod Digital
