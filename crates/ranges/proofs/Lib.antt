pub mod Checks
pub mod Meaning
pub mod Sums
pub mod Laws
