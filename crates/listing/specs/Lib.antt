pub mod Lines
pub mod Slots
