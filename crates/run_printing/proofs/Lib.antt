pub mod ActorLines
pub mod Counted
pub mod Fronts
pub mod Lines
pub mod Sums
pub mod Unanswered
