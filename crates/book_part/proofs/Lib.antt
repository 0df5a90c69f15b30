pub mod Branches
pub mod Shown
pub mod Asked
pub mod Told
pub mod Going
pub mod Numbered
mod Mapped
pub mod Live
pub mod LeftTold
