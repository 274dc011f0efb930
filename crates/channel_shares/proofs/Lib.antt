pub mod Weighs
