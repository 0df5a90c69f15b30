pub mod Shares
pub mod Besides
pub mod Acts
pub mod Crews
pub mod Steps
pub mod Devices
pub mod Outputs
pub mod LawsOfRuns
pub use Rattle.atomic_table.specs as atomic_table
pub use Rattle.turn_table.specs as turn_table
pub use Rattle.gate_log.specs as gate_log
pub use Rattle.run_effects.specs.record_log as record_log
pub use Rattle.run_effects.specs.snap_report as snap_report
pub use Rattle.run_effects.specs as run_effects
