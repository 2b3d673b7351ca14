pub mod Breaking
pub mod Copying
pub mod Entering
pub mod Laws
pub mod Telling
