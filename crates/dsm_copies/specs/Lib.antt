pub mod Modes
pub mod Copies
pub mod Premises
pub mod Counts
pub mod Debts
pub mod Laws
pub mod Joining
pub mod Examples
