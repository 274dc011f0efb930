pub mod Blocks
pub mod Gets
