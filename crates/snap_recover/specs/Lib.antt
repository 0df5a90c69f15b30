pub mod Logs
pub mod Opening
pub mod Refusals
pub mod Passes
pub use Rattle.txn_records.specs as txn_records
