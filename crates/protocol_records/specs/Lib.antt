pub mod AsTold
pub mod Crash
pub mod Logged
pub mod NextNumbers
pub mod Overs
pub mod RecordLaws
pub mod SeveralRuns
pub mod Telling
