pub mod Calls
pub mod Hosts
pub mod Printings
pub mod Runs
pub mod Statuses
pub mod Untraced
pub mod Writings
pub use Rattle.snap_base.specs as snap_base
pub use Rattle.solo_host.specs.rand_core as rand_core
pub use Rattle.solo_host.specs.rand_pcg as rand_pcg
pub use Rattle.run_printing.specs.decimal_words as decimal_words
pub use Rattle.protocol.specs as protocol
pub use Rattle.protocol_laws.specs as protocol_laws
pub use Rattle.snap_core.specs.core_events as core_events
pub use Rattle.snap_core.specs.log_set as log_set
pub use Rattle.snap_core.specs.aml_tree as aml_tree
pub use Rattle.solo_host.specs.protocol_schedule as protocol_schedule
pub use Rattle.run_printing.specs.trace_text as trace_text
pub use Rattle.snap_core.specs.aml_check as aml_check
pub use Rattle.snap_core.specs.protocol_records as protocol_records
pub use Rattle.snap_core.specs.protocol_verdicts as protocol_verdicts
pub use Rattle.run_recovery.specs.recovery_laws as recovery_laws
pub use Rattle.run_opening.specs as run_opening
pub use Rattle.snap_core.specs.aml_slice as aml_slice
pub use Rattle.snap_core.specs.machine_laws as machine_laws
pub use Rattle.run_recovery.specs.machine_recovery as machine_recovery
pub use Rattle.solo_host.specs.run_effects as run_effects
pub use Rattle.run_recovery.specs as run_recovery
pub use Rattle.solo_host.specs as solo_host
pub use Rattle.run_printing.specs as run_printing
pub use Rattle.crew_host.specs as crew_host
