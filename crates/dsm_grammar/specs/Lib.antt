pub mod Faults
pub mod Grammar
pub mod Laws
pub mod Lines
pub mod Operands
pub mod Settings
pub mod Statements
