pub mod Numbers
pub mod Fields
pub mod Back
pub mod Offsets
