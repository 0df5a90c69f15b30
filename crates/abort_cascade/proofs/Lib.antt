pub mod Covering
pub mod Ascending
