pub mod Gates
pub mod Steps
pub mod Sums
pub mod FittingSlots
pub mod Charges
pub mod WorkedFindings
