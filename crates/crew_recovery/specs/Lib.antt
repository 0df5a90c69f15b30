pub mod CrewRuns
pub mod Cuts
pub mod Told
pub mod Recovered
