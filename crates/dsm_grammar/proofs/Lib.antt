pub mod Accepting
pub mod Counting
pub mod Keeping
pub mod Places
pub mod Starting
pub mod Tables
