pub mod Assembled
pub mod Directives
pub mod Forms
pub mod Labelled
pub mod Lines
pub mod Past
pub mod Table
pub mod Words
