pub mod SomeItems
pub mod Counts
pub mod EntryOrder
pub mod Spelled
pub mod Within
pub mod OnlyFault
pub mod WorkedSelectors
pub mod WorkedRows
