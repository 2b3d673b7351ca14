pub mod Hearing
pub mod Lowest
mod Telling
