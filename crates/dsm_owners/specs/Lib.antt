pub mod Stages
pub mod Acts
pub mod Directory
pub mod Premises
pub mod Laws
pub mod Examples
