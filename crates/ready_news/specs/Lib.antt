pub mod New
pub mod Foreseen
pub mod InDesk
pub mod InBook
pub mod GivenUp
pub mod InAnswers
pub mod InRing
pub mod InPost
pub mod InCells
pub mod Looks
pub mod ByEvent
pub use Rattle.ready_listing.specs as ready_listing
