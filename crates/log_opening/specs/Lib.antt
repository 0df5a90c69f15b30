pub mod Counted
pub mod Cuts
pub mod Devices
pub mod Found
pub mod Kept
pub mod Reads
pub mod Upgrades
pub use Rattle.log_compact.specs as log_compact
