pub mod Spans
pub mod Shapes
pub mod RegisterReads
pub mod Decimals
