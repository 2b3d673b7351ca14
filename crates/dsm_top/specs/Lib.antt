pub mod Answer
pub mod CommandLine
pub mod Plans
pub mod Refusals
pub mod Run
pub mod Streams
pub mod Done
