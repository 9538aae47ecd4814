pub mod Faults
pub mod Numbered
