pub mod After
pub mod Events
pub mod Promise
pub mod Tied
pub mod Views
