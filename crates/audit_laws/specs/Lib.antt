pub mod Acts
pub mod AsMeant
pub mod Fits
pub mod Half
pub mod InOrder
pub mod Names
pub mod Programs
pub mod RunsTold
