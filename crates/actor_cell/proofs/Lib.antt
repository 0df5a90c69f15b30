pub mod Backwards
pub mod Slots
pub mod Undoing
