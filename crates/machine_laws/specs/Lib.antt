pub mod Controls
pub mod Meant
pub mod Programs
pub mod MethodCode
pub use Rattle.protocol_theorems.specs as protocol_theorems
pub use Rattle.protocol_records.specs as protocol_records
pub use Rattle.protocol_verdicts.specs as protocol_verdicts
