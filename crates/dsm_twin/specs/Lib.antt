pub mod Laws
pub mod Rests
pub mod Twins
