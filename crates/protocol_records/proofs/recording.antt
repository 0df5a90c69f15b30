-- The records of a run: in their logs, each once, few, and as they tell.
pub mod ActsDrawn
pub mod AddedOnce
pub mod FewActors
pub mod FewLists
pub mod FewRecords
pub mod NextNumbersKept
pub mod NumbersDrawn
pub mod RecordLists
pub mod RecordsHold
pub mod RecordsTold
pub mod SeveralRunsStand
pub mod TellsTids
pub mod TellsValues
