-- Each verdict exactly where an event gave it, and what it tells of serial runs.
pub mod EvidenceActs
pub mod EvidenceAhead
pub mod EvidenceBack
pub mod EvidenceBetween
pub mod EvidenceCommitted
pub mod EvidenceGiven
pub mod EvidencePacts
pub mod EvidenceRuns
pub mod EvidenceSaid
pub mod EvidenceSerial
pub mod EvidenceTold
