pub mod Contents
pub mod Room
pub mod Running
pub mod Lending
pub mod Cutting
pub use Rattle.actor_cell.specs as actor_cell
pub use Rattle.hybrid_schedule.specs as hybrid_schedule
