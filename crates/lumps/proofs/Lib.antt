pub mod Lumps
