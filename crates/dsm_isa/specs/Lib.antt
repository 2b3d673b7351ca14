pub mod Jumps
pub mod Limits
pub mod Operands
pub mod ProgramText
pub mod Rules
