pub mod Lying
pub mod Ready
pub mod Refusing
pub mod Telling
pub mod Touched
