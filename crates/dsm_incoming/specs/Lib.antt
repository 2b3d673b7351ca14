pub mod Getting
pub mod Laws
