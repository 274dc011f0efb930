pub mod Exact
pub mod Again
