pub mod Events
pub mod Past
pub mod Tied
pub mod Views
