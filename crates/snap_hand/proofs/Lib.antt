pub mod InLists
pub mod InBoxes
pub mod Held
pub mod Refits
pub mod SlicesHere
pub mod Stepping
pub mod AtActors
pub mod Nowhere
pub mod LogSteps
pub mod Begins
pub mod Opens
pub mod Waiting
pub mod Numbered
pub mod PartsFit
pub mod OneHand
pub mod AllLeft
pub use Rattle.aml_slice.proofs.aml_tokens as aml_tokens
pub use Rattle.snap_recover.proofs as snap_recover
pub use Rattle.aml_slice.proofs.aml_tree as aml_tree
pub use Rattle.core_rows.proofs as core_rows
