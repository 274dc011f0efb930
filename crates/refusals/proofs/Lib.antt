mod Cutting
mod Hinting
