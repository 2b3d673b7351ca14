pub mod Choosing
pub mod Finding
pub mod Going
pub mod Listing
pub mod Scheduling
pub mod Simulating
