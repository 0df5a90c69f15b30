pub mod MethodsByPlace
pub mod Examples
