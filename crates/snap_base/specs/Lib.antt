pub mod Numbers
pub mod States
pub mod Text
pub mod Outcomes
pub mod Lines
