pub mod Used
pub mod Head
pub mod Ranges
pub mod Store
pub mod Moves
pub mod Calls
