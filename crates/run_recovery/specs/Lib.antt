pub mod Schedules
pub mod Runs
pub mod OneRun
pub mod EachRun
pub mod Crashes
pub mod Beginnings
pub mod Stands
pub mod Next
pub mod Recoverable
pub mod Between
pub mod Several
pub use Rattle.machine_recovery.specs.recovery_laws as recovery_laws
pub use Rattle.machine_recovery.specs as machine_recovery
