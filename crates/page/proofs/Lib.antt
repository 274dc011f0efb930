pub mod Parts
pub mod Filling
pub mod Listed
pub mod Long
