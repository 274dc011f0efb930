mod Tests
pub mod Ways
