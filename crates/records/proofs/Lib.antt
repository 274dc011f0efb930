mod Lookup
mod Found
