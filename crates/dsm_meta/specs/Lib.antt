pub mod Facts
pub mod Following
