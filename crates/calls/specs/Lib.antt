pub mod Kept
pub mod Lines
