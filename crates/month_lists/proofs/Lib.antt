pub mod Stretch
pub mod Lay
pub mod Turn
pub mod Stops
