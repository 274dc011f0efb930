pub mod Plain
pub mod Stays
pub mod Staying
