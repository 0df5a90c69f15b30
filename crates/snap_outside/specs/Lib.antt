pub mod Causes
pub mod Disk
pub mod Fakes
pub mod Images
pub mod MemoryLog
pub mod Moments
