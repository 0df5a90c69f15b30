pub mod Cores
pub mod Apart
pub mod AllVerdicts
pub mod Kept
pub use Rattle.snap_hand.specs.txn_records as txn_records
pub use Rattle.core_events.specs as core_events
pub use Rattle.snap_hand.specs.log_set as log_set
pub use Rattle.snap_hand.specs.snap_recover as snap_recover
pub use Rattle.aml_slice.specs.aml_tree as aml_tree
pub use Rattle.protocol_theorems.specs as protocol_theorems
pub use Rattle.aml_slice.specs.aml_check as aml_check
pub use Rattle.machine_laws.specs.protocol_records as protocol_records
pub use Rattle.machine_laws.specs.protocol_verdicts as protocol_verdicts
pub use Rattle.ready_list.specs.protocol_ready as protocol_ready
pub use Rattle.snap_hand.specs.snap_work as snap_work
pub use Rattle.ready_list.specs as ready_list
pub use Rattle.snap_hand.specs.core_rows as core_rows
pub use Rattle.aml_slice.specs as aml_slice
pub use Rattle.machine_laws.specs as machine_laws
pub use Rattle.snap_hand.specs.machine_text as machine_text
pub use Rattle.snap_hand.specs as snap_hand
pub use Rattle.ready_listing.specs as ready_listing
pub use Rattle.ready_news.specs as ready_news
pub use Rattle.ready_renewal.specs as ready_renewal
