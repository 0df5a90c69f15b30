pub mod Groups
pub mod Made
pub mod Lines
pub mod Laws
pub mod Recorded
pub mod Replies
pub mod Sizes
pub mod Driven
pub mod Appending
pub mod RunsOf
pub use Rattle.snap_hand.specs.core_events as core_events
pub use Rattle.snap_hand.specs.log_set as log_set
pub use Rattle.record_log.specs.gate_log as gate_log
pub use Rattle.record_log.specs as record_log
pub use Rattle.snap_report.specs as snap_report
