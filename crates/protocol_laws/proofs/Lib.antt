pub mod Lemmas
pub mod first
pub mod machine
