pub mod Merging
pub mod Overwriting
