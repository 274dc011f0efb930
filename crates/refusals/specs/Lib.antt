pub mod Places
pub mod Hints
pub mod Excerpts
