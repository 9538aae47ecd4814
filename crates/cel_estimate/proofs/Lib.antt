pub mod Estimates
pub mod Bounded
mod Ranges
