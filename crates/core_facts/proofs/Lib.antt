pub mod Cutting
pub mod Listed
pub mod Planned
pub mod Sorted
pub mod Taken
