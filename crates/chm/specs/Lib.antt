pub mod Batches
pub mod Drafts
pub mod Laws
pub mod Sealers
pub mod Seals
pub mod Words
