pub mod Failures
pub mod Meant
pub mod Places
