pub mod Tables
pub mod Hands
pub mod Steps
pub mod Shown
pub mod Openings
pub mod Left
pub use Rattle.snap_recover.specs.txn_records as txn_records
pub use Rattle.aml_slice.specs.aml_tokens as aml_tokens
pub use Rattle.protocol_laws.specs as protocol_laws
pub use Rattle.core_rows.specs.token_ring as token_ring
pub use Rattle.core_rows.specs.actor_cell as actor_cell
pub use Rattle.core_rows.specs.post_box as post_box
pub use Rattle.core_events.specs as core_events
pub use Rattle.core_rows.specs.batch_table as batch_table
pub use Rattle.core_rows.specs.log_set as log_set
pub use Rattle.snap_recover.specs as snap_recover
pub use Rattle.aml_slice.specs.aml_tree as aml_tree
pub use Rattle.machine_laws.specs.protocol_theorems as protocol_theorems
pub use Rattle.core_rows.specs.cell_part as cell_part
pub use Rattle.aml_check.specs as aml_check
pub use Rattle.core_rows.specs.book_part as book_part
pub use Rattle.core_rows.specs.core_facts as core_facts
pub use Rattle.snap_work.specs as snap_work
pub use Rattle.core_rows.specs as core_rows
pub use Rattle.aml_slice.specs as aml_slice
pub use Rattle.machine_laws.specs as machine_laws
pub use Rattle.machine_text.specs as machine_text
