pub mod Always
pub mod Clocks
pub mod Events
pub mod Holders
pub mod Places
pub mod Tied
pub mod Views
