pub mod Plain
pub mod Stays
