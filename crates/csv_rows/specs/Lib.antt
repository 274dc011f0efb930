pub mod Times
pub mod Rows
