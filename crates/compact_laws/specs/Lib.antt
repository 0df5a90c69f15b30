pub mod Members
pub mod Steps
pub mod Stays
pub use Rattle.log_compact.specs as log_compact
