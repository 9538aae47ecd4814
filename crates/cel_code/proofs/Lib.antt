pub mod LoopNumbers
mod WorkedRows
pub mod Taking
pub mod Crossing
pub mod Texts
pub mod Laws
pub mod Tables
pub mod TypeLaw
pub mod Behind
pub mod Loops
pub mod FieldOrder
pub mod ConstantLaw
pub mod CodeLaw
pub mod ImageLaw
pub mod Whole
