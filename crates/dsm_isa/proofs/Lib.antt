pub mod Ascending
pub mod Jumping
