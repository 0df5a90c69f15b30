-- What a checkpoint tells, and the records of a log that are none.
use Rattle.std.specs.Prelude.{◌≡◌, ℕ, Bool, is_none, Option, Some, None, List, filter}
use Rattle.snap_base.specs.declared.transactions.State.{State}
use Rattle.txn_records.specs.declared.records.Record.{Record}
use Rattle.txn_records.specs.declared.records.Record.TheVariants.{Genesis, BatchInfo, BatchComplete, BatchCommit, ActPrepare, ActCommit, BatchDone, ActDone, Checkpoint}

-- A checkpoint stands in place of the records of all that was committed before it: the states that these left, the next numbers, and
-- how many batches and undeclared transactions they were.
pub record Point : Type 0 where
  pub generation : ℕ
  pub next_tid : ℕ
  pub next_bid : ℕ
  pub next_c : ℕ
  pub batches : ℕ
  pub acts : ℕ
  pub states : List State

-- what the record tells where it is a checkpoint
abbrev pub point_told : Record → Option Point
point_told (Genesis logs states) = None
point_told (BatchInfo bid actors tids) = None
point_told (BatchComplete bid actor state) = None
point_told (BatchCommit bid) = None
point_told (ActPrepare tid actor state) = None
point_told (ActCommit tid m c actors) = None
point_told (BatchDone bid values) = None
point_told (ActDone tid m c value actors) = None
point_told (Checkpoint generation next_tid next_bid next_c batches acts states) =
    Some (record { generation = generation; next_tid = next_tid.0; next_bid = next_bid.0; next_c = next_c; batches = batches; acts = acts; states = states })

-- the record is no checkpoint
abbrev pub IsPlain : Record → Type 0
IsPlain r = point_told r ≡ None

abbrev pub is_plain : Record → Bool
is_plain r = is_none (point_told r)

-- the records that are none
abbrev pub plains : List Record → List Record
plains rs = filter is_plain rs
