pub mod Controls
pub mod Readers
pub mod Slicing
pub mod Wholes
pub mod Moments
pub mod Finishing
pub mod Views
pub use Rattle.aml_tree.specs.aml_tokens as aml_tokens
pub use Rattle.aml_tree.specs as aml_tree
pub use Rattle.aml_check.specs as aml_check
pub use Rattle.aml_resume.specs as aml_resume
