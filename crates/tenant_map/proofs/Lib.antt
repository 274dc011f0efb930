mod Changes
pub mod Asks
