pub mod Drives
pub mod Stops
pub use Rattle.gate_log.specs as gate_log
pub use Rattle.run_effects.specs as run_effects
pub use Rattle.crew_parts.specs as crew_parts
pub use Rattle.crew_workers.specs as crew_workers
pub use Rattle.crew_ends.specs as crew_ends
