pub mod Generated
pub mod Template
