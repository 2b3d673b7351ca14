pub mod Stages
pub mod Pages
pub mod Premises
pub mod Laws
pub mod Examples
