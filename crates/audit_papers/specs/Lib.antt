pub mod Bytes
pub mod Found
pub mod ReportLines
pub mod LineWords
