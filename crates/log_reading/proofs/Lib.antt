pub mod Opening
pub mod Copies
