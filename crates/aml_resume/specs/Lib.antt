pub mod Places
pub mod Pausing
pub mod Resuming
pub mod Rooms
pub mod Reading
pub mod Machine
