pub mod Page
pub mod Premises
pub mod Laws
pub mod Examples
pub mod Joining
