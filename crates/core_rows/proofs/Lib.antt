pub mod Begun
pub mod RunsOn
pub mod Rules
pub mod Placing
pub mod Planned
pub mod Found
pub mod Failing
pub mod Older
pub mod Ended
pub mod SubBatches
pub mod Commits
pub mod Slices
pub mod Waiting
pub use Rattle.book_part.proofs as book_part
