mod Doubling
pub mod Clocks
