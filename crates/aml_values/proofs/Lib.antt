pub mod Declared
pub mod RowValues
mod TwoValues
