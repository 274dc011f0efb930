pub mod Each
pub mod Keys
pub mod Seek
pub mod Whole
pub mod Blocks
pub mod Holds
pub mod Settle
