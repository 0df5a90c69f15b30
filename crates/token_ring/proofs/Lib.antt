pub mod Busy
pub mod Collected
pub mod Places
pub mod Plans
