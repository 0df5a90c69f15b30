pub mod Growth
pub mod GrowthLaws
pub mod Reading
pub mod RecordLogLaws
pub mod Records
pub use Rattle.snap_outside.specs as snap_outside
pub use Rattle.txn_records.specs as txn_records
pub use Rattle.gate_log.specs as gate_log
