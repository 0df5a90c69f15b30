pub mod Ready
pub mod Written
pub mod Fits
pub mod Compacted
pub mod Crashes
pub mod Steps
