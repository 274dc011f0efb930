pub mod Replace
pub mod Tries
