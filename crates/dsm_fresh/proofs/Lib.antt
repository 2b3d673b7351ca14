pub mod Facts
pub mod Words
pub mod Others
pub mod Actors
pub mod Keeps
pub mod Places
pub mod Tests
pub mod Worked
