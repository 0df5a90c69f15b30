pub mod evidence
