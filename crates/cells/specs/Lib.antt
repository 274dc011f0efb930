pub mod Cells
pub mod Moments
