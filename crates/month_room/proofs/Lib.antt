pub mod Lengths
pub mod Walk
pub mod Held
