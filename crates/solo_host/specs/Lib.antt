pub mod Drives
pub mod Outside
pub mod Together
pub mod Turns
pub use Rattle.rand_core.specs as rand_core
pub use Rattle.rand_pcg.specs as rand_pcg
pub use Rattle.protocol_schedule.specs as protocol_schedule
pub use Rattle.run_effects.specs as run_effects
