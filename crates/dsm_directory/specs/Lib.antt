pub mod Directory
pub mod Homes
pub mod Laws
pub mod Rests
