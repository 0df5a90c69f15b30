pub mod Commits
pub mod OnRuns
pub mod Showing
pub mod Slices
pub mod Begun
pub mod Starts
pub mod Taken
pub use Rattle.token_ring.specs as token_ring
pub use Rattle.cell_part.specs.actor_cell as actor_cell
pub use Rattle.post_box.specs as post_box
pub use Rattle.cell_part.specs.hybrid_schedule as hybrid_schedule
pub use Rattle.batch_table.specs as batch_table
pub use Rattle.log_set.specs as log_set
pub use Rattle.book_part.specs.order_book as order_book
pub use Rattle.cell_part.specs as cell_part
pub use Rattle.book_part.specs as book_part
pub use Rattle.core_facts.specs as core_facts
