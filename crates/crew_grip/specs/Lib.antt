pub mod Grips
pub mod Acted
