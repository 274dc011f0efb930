pub mod Expected
pub mod Cases
