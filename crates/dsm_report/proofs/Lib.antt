pub mod PageLines
pub mod Printed
