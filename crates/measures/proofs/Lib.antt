pub mod Bounds
mod Gathering
