pub mod Facts
pub mod Acts
pub mod AtStages
pub mod Keeps
pub mod Every
pub mod Tests
pub mod Worked
