-- The laws of records and fields as places of the file.
pub mod Passes
pub mod Ends
pub mod Cuts
pub mod Commas
pub mod Steps
