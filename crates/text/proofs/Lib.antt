pub mod Loops
pub mod Texts
