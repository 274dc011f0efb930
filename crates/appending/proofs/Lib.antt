mod Written
mod Ways
