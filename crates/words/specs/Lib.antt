pub mod Lists
pub mod Names
pub mod Meanings
pub mod Qualities
