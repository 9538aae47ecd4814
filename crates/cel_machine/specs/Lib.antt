pub mod Follow
pub mod Found
pub mod Operand
pub mod Ranges
pub mod Room
pub mod Turns
