pub mod Tree
pub mod Grammar
pub mod Limits
pub mod Programs
pub mod Lines
pub mod TreeRules
pub use Rattle.aml_tokens.specs as aml_tokens
