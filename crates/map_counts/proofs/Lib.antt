mod Sums
mod Outputs
