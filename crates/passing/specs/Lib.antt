pub mod Passes
pub mod Sound
