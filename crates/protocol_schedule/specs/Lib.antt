pub mod Draw
pub use Rattle.rand_core.specs as rand_core
pub use Rattle.rand_pcg.specs as rand_pcg
