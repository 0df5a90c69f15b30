pub mod Rows
pub mod Uses
