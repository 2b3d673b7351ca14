pub mod Cuts
pub mod Frame
pub mod Numbered
pub mod Readings
pub mod Whole
pub mod Sound
