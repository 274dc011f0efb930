pub mod Letters
pub mod Capitals
