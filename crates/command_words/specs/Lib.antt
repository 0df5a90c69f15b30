pub mod CommandLaws
pub mod Commands
pub mod Counts
pub mod Words
pub mod Workers
