pub mod Cells
pub mod Names
