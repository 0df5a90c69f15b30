pub mod Read
pub mod ReadLaws
pub use Rattle.gate_log.specs as gate_log
