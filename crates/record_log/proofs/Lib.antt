pub mod Appending
pub mod Growing
pub mod Holding
pub mod MarksKept
pub mod Reading
pub mod Sizes
pub mod Spelling
pub mod Upgrading
pub mod WholeGroups
pub use Rattle.txn_records.proofs as txn_records
