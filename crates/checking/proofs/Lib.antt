pub mod Ahead
pub mod Walks
pub mod Answered
