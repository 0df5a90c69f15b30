pub mod Fates
pub mod Asked
pub mod Kept
pub mod Changes
pub mod Registered
pub mod Walking
