mod Outcomes
mod WorkedRows
pub mod Only
mod Taken
mod Told
mod WorkedChecks
pub mod Spelt
pub mod Accepted
