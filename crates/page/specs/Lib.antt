pub mod Filled
pub mod Texts
