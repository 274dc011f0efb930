mod Ways
pub mod Memory
