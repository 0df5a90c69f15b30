pub mod OnLogs
pub use Rattle.recovery_laws.specs as recovery_laws
pub use Rattle.compact_laws.specs as compact_laws
