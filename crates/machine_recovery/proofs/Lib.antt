pub mod Programs
pub use Rattle.recovery_laws.proofs as recovery_laws
