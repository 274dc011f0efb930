mod Ways
mod Days
