pub mod Laws
pub mod Opens
