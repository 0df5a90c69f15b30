pub mod ExampleCode
pub mod Examples
pub mod Lines
pub mod Paths
pub mod Rules
pub mod Seeds
pub mod Crowd
