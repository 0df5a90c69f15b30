pub mod Lines
pub mod Summaries
