pub mod Axis
pub mod Counts
