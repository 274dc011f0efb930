pub mod Outputs
pub mod Versions
pub mod Calls
