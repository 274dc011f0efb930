pub mod Bools
pub mod Channels
pub mod Walks
