pub mod Entries
pub mod Back
