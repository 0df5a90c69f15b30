pub mod Counted
pub mod Grouped
pub mod Placed
pub mod Risen
pub mod ByTransaction
pub mod Evidence
pub mod Failures
pub mod Located
pub mod Meanings
pub mod AuditNos
pub mod Behind
pub use Rattle.audit_words.specs as audit_words
