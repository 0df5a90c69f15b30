pub mod Binding
pub mod RisingRests
pub mod NearLaws
pub mod KeptFrames
pub mod Askings
pub mod Admissions
pub mod SpareFrames
pub mod Worlds
pub mod Moving
pub mod MoveLaws
pub mod Following
pub mod Reaching
pub mod KeptRests
pub mod Roots
pub mod Beginnings
pub mod SlicesAddUp
pub mod OneEnd
pub mod SlicedMoves
pub mod ExactMoves
pub mod ExactStarts
pub mod Finished
pub mod ReadersLeave
pub use Rattle.aml_tree.proofs.aml_tokens as aml_tokens
pub use Rattle.aml_tree.proofs as aml_tree
