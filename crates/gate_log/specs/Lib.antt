pub mod Appends
pub mod Bytes
pub mod Device
pub mod LogLaws
pub mod Opened
pub mod Reading
pub mod State
