pub mod Puts
pub mod Tries
