pub mod Places
pub mod Runs
pub mod Views
pub mod Rule
pub mod Steps
pub mod Words
