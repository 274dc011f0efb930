mod Rowed
mod Timed
