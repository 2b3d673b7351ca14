pub mod Silence
pub mod Zeros
