pub mod Evidence
pub mod EvidenceSerial
