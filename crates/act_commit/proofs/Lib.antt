pub mod Indexing
pub mod Finding
pub mod Ready
