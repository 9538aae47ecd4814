pub mod Faults
pub mod Judged
pub mod Lines
pub mod LineQueues
