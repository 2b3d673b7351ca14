pub mod Finding
pub mod Laws
pub mod Notices
pub mod Posting
pub mod Rests
