pub use Rattle.aml_tokens.proofs as aml_tokens
