pub mod Deciding
pub mod Inside
