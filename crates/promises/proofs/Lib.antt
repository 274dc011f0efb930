pub mod Exact
pub mod Again
pub mod Promises
pub mod Replaces
