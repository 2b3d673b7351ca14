mod Broken
pub mod Copying
mod Entered
