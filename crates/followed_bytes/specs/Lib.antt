pub mod Readings
pub mod Looks
pub mod Series
