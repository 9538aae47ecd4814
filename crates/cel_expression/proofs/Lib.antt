pub mod Numbering
pub mod ConstantTexts
pub mod OneRun
pub mod Elements
pub mod SameCode
pub mod KeptCode
pub mod OperandCode
pub mod BranchCode
pub mod LoopCode
pub mod Place
pub mod Stretches
pub mod OperatorRuns
pub mod BranchRuns
pub mod ListRuns
pub mod LoopRuns
pub mod Runs
pub mod TargetLists
pub mod TargetOrder
pub mod JumpGoals
pub mod TargetSources
pub mod Jumped
pub mod Unique
pub mod Written
pub mod Leaving
mod Within
mod OfImage
mod Faults
pub mod Crossing
