mod Ranks
pub mod Fair
pub mod Orders
pub mod Calls
pub mod Days
