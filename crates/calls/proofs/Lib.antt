pub mod Looked
pub mod Answered
