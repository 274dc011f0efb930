pub mod Pieces
pub mod Maps
pub mod Dates
