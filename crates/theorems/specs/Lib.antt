pub mod Grammar
pub mod Calendar
pub mod Places
pub mod Beginnings
pub mod First
pub mod Days
