pub mod ByKey
pub mod Floors
pub mod Grouped
pub mod Once
pub mod Crossing
pub mod WorkedVerdicts
