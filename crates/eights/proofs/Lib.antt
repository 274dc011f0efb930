-- The laws of eight bytes read as one number.
pub mod Words
