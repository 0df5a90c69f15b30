pub mod Taken
pub mod WorkedRows
