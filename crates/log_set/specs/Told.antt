-- A record of the machine as it is written: where the machine has numbers, the code has identifiers.
use Rattle.std.specs.Prelude.{ℕ, List, map}
use Rattle.snap_base.specs.declared.ids.ActorId.{ActorId}
use Rattle.snap_base.specs.declared.ids.Bid.{Bid}
use Rattle.snap_base.specs.declared.ids.Tid.{Tid}
pub use Rattle.snap_base.specs.States.{tid_of}
use Rattle.txn_records.specs.declared.records.Record.{Record}
use Rattle.txn_records.specs.declared.records.Record.TheVariants as records
use Rattle.protocol.specs.Records.{LogRecord, BatchInfo, BatchComplete, BatchDone, ActPrepare, ActDone}

abbrev pub bid_of : ℕ → Bid
bid_of n = record { 0 = n }

abbrev pub actor_of : ℕ → ActorId
actor_of n = record { 0 = n }

abbrev pub tids_of : List ℕ → List Tid
tids_of ts = map tid_of ts

abbrev pub actor_ids : List ℕ → List ActorId
actor_ids ns = map actor_of ns

abbrev pub told : LogRecord → Record
told (BatchInfo bid actors tids) = records.BatchInfo (bid_of bid) (actor_ids actors) (tids_of tids)
told (BatchComplete bid actor state) = records.BatchComplete (bid_of bid) (actor_of actor) state
told (BatchDone bid values) = records.BatchDone (bid_of bid) values
told (ActPrepare tid actor state) = records.ActPrepare (tid_of tid) (actor_of actor) state
told (ActDone tid m c value actors) = records.ActDone (tid_of tid) (bid_of m) c value (actor_ids actors)

abbrev pub all_told : List LogRecord → List Record
all_told rs = map told rs
