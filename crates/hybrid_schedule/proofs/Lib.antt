pub mod Reaching
pub mod Counting
pub mod OfActs
pub mod Bounds
pub mod Cutting
pub mod Stepping
