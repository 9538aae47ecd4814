pub mod Values
pub mod Simple
pub mod WorkedRows
