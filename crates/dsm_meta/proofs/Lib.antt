pub mod Every
pub mod Following
pub mod Reached
pub mod Turns
