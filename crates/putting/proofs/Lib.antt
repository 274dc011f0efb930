mod Adds
mod Enters
mod Ways
