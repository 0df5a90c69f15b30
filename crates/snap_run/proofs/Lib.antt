pub mod AuditComplete
pub mod Complete
pub mod FollowComplete
pub mod InputLaws
pub mod KeptLines
pub mod Outcomes
pub mod RecoverComplete
pub mod Recovering
