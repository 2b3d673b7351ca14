pub mod Actions
pub mod Following
pub mod Local
pub mod Readers
