pub mod Rounds
pub mod Workers
pub mod Ends
