pub mod Lemmas
pub mod bounds
pub mod halves
pub mod order
pub mod quiet
pub mod sets
