-- The laws of what the walker hands out, and what the walks over it share.
pub mod Handed
