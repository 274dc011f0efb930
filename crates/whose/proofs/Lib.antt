pub mod Found
pub mod Ends
