pub mod EntryOrder
pub mod RequestFits
pub mod TypeCrossing
pub mod Standing
pub mod Typed
pub mod Each
pub mod Unverified
pub mod Crossing
