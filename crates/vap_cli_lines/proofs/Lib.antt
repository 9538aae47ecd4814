pub mod Crossing
pub mod LineQueues
pub mod Reading
mod WorkedRows
