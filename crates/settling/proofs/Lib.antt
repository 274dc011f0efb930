pub mod Slots
pub mod Offsets
pub mod Blocks
pub mod Parts
pub mod After
pub mod Fewer
pub mod Entered
pub mod Headed
