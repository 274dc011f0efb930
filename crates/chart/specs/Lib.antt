pub mod Parts
pub mod Bars
pub mod Frame
pub mod Legend
