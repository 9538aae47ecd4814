pub mod Filled
pub mod Gathering
pub mod Innermost
pub mod Meters
pub mod Ranges
pub mod Running
pub mod ShortTexts
pub mod Values
mod Runs
mod Matches
mod PlainCode
mod PlainTrees
mod Spelled
