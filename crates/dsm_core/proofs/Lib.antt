pub mod FirstWords
pub mod Handing
pub mod Leaving
pub mod Rooms
pub mod Stepping
