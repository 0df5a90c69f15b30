pub mod Faults
pub mod Numbers
pub mod RecordLaws
pub mod Records
pub mod Stops
pub mod Texts
