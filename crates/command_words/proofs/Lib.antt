pub mod Names
pub mod OneCommand
pub mod Usage
pub mod UsageOfCounts
pub mod UsageOfRounds
