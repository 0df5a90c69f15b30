pub mod BatchesSettled
pub mod Elements
pub mod GroupsGrown
pub mod PausesFit
pub mod Pieces
pub mod ProgramsLeave
pub mod RecordsKept
pub mod RepliesGrown
pub mod ResultsFit
pub mod RunsLonger
pub mod SlicesFit
pub mod StatesKept
pub mod ValuesFit
mod ToldSizes
mod GroupSizes
mod GroupsWaited
mod RecordCounts
pub mod Driving
pub use Rattle.record_log.proofs as record_log
