pub mod Trimming
pub mod Texts
