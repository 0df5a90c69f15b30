pub mod Token
pub mod Bytes
pub mod Lexing
pub mod Names
pub mod Reading
pub mod Writing
