pub mod Values
pub mod Top
pub mod Find
