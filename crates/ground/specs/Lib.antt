pub mod Lists
pub mod Text
pub mod Digits
pub mod Runs
pub mod Room
