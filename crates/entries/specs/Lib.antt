pub mod Little
pub mod Keys
pub mod Entries
pub mod Left
