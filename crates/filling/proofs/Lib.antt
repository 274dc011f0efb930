pub mod Fill
pub mod Cases
