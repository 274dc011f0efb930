pub mod Whose
pub mod Stands
