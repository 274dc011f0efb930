mod Commas
mod Ways
