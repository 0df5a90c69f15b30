pub mod Room
pub mod Placing
pub mod Slots
pub mod Schedules
pub mod Cuts
pub mod Arrivals
pub mod Listed
