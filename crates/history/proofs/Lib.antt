pub mod Sound
mod Fits
mod Adds
pub mod Dates
pub mod Theorems
pub mod Exactly
