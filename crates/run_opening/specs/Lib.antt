pub mod Begins
pub mod Opens
pub mod Starts
pub mod Writes
pub use Rattle.txn_records.specs as txn_records
pub use Rattle.gate_log.specs as gate_log
pub use Rattle.snap_recover.specs as snap_recover
pub use Rattle.record_log.specs as record_log
pub use Rattle.log_opening.specs as log_opening
