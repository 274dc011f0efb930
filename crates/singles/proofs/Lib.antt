mod Each
pub mod Calls
