pub mod Blocks
pub mod Writer
