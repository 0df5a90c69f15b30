pub mod OneOver
pub mod LaidOut
pub mod TakenApart
pub mod Ending
pub mod Starting
