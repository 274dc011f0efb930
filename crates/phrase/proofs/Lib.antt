pub mod Chained
mod Phrased
