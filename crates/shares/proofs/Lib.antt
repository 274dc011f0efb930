pub mod Counts
pub mod Sums
pub mod Loops
