-- What stands in the logs: lists of records, one for each log. Batch k writes to log k, actor a to log a, and
-- transaction t commits in log t, all modulo the number of logs.
use Rattle.std.specs.Prelude.{◌≡◌, ℕ, ℤ, ◌%◌, Bool, true, false, List, [], ◌∷◌, ◌++◌, length, map, filter, slice_index_or, Contains}
use Rattle.std.specs.List.{AllByRecursion, flat_map}
use Rattle.txn_records.specs.declared.records.Record.{Record}
use Rattle.txn_records.specs.declared.records.Record.TheVariants.{Genesis, BatchInfo, BatchComplete, BatchCommit, ActPrepare, ActCommit, BatchDone, ActDone, Checkpoint}
use Rattle.snap_base.specs.declared.transactions.State.{State}
use Rattle.txn_records.specs.declared.keys.Key.{Key}
use Rattle.txn_records.specs.Records.{key, actor_numbers, tid_numbers}

-- all records, log by log
abbrev pub all_of : List (List Record) → List Record
all_of logs = flat_map (λ (rs : List Record). rs) logs

-- the log to which the batch, the actor, or the transaction of this number writes
abbrev pub log_of : List (List Record) → ℕ → List Record
log_of logs n = slice_index_or logs (n % length logs) []

-- some record has the key
abbrev pub HasKey : List Record → Key → Type 0
HasKey rs k = Contains (map key rs) k

-- r is the last one that has P
abbrev pub IsLastOf : (Record → Type 0) → List Record → Record → Type 0
IsLastOf P rs r = (front behind : List Record) × (rs ≡ front ++ r ∷ behind) × P r × AllByRecursion (λ x. ¬ P x) behind

-- ---- which numbers occur

abbrev pub actors_in : Record → List ℕ
actors_in (Genesis logs states) = []
actors_in (BatchInfo bid actors tids) = actor_numbers actors
actors_in (BatchComplete bid actor state) = actor.0 ∷ []
actors_in (BatchCommit bid) = []
actors_in (ActPrepare tid actor state) = actor.0 ∷ []
actors_in (ActCommit tid m c actors) = actor_numbers actors
actors_in (BatchDone bid values) = []
actors_in (ActDone tid m c value actors) = actor_numbers actors
actors_in (Checkpoint generation next_tid next_bid next_c batches acts states) = []

abbrev pub tids_in : Record → List ℕ
tids_in (Genesis logs states) = []
tids_in (BatchInfo bid actors tids) = tid_numbers tids
tids_in (BatchComplete bid actor state) = []
tids_in (BatchCommit bid) = []
tids_in (ActPrepare tid actor state) = tid.0 ∷ []
tids_in (ActCommit tid m c actors) = tid.0 ∷ []
tids_in (BatchDone bid values) = []
tids_in (ActDone tid m c value actors) = tid.0 ∷ []
tids_in (Checkpoint generation next_tid next_bid next_c batches acts states) = []

abbrev pub bids_in : Record → List ℕ
bids_in (Genesis logs states) = []
bids_in (BatchInfo bid actors tids) = bid.0 ∷ []
bids_in (BatchComplete bid actor state) = bid.0 ∷ []
bids_in (BatchCommit bid) = bid.0 ∷ []
bids_in (ActPrepare tid actor state) = []
bids_in (ActCommit tid m c actors) = m.0 ∷ []
bids_in (BatchDone bid values) = bid.0 ∷ []
bids_in (ActDone tid m c value actors) = m.0 ∷ []
bids_in (Checkpoint generation next_tid next_bid next_c batches acts states) = []

-- commit numbers
abbrev pub commits_in : Record → List ℕ
commits_in (Genesis logs states) = []
commits_in (BatchInfo bid actors tids) = []
commits_in (BatchComplete bid actor state) = []
commits_in (BatchCommit bid) = []
commits_in (ActPrepare tid actor state) = []
commits_in (ActCommit tid m c actors) = c ∷ []
commits_in (BatchDone bid values) = []
commits_in (ActDone tid m c value actors) = c ∷ []
commits_in (Checkpoint generation next_tid next_bid next_c batches acts states) = []

-- the states of the one actor that the record is of
abbrev pub states_in : Record → List State
states_in (Genesis logs states) = []
states_in (BatchInfo bid actors tids) = []
states_in (BatchComplete bid actor state) = state ∷ []
states_in (BatchCommit bid) = []
states_in (ActPrepare tid actor state) = state ∷ []
states_in (ActCommit tid m c actors) = []
states_in (BatchDone bid values) = []
states_in (ActDone tid m c value actors) = []
states_in (Checkpoint generation next_tid next_bid next_c batches acts states) = []

-- the values that the commit of a batch tells; format 1 tells none
abbrev pub values_in : Record → List ℤ
values_in (Genesis logs states) = []
values_in (BatchInfo bid actors tids) = []
values_in (BatchComplete bid actor state) = []
values_in (BatchCommit bid) = []
values_in (ActPrepare tid actor state) = []
values_in (ActCommit tid m c actors) = []
values_in (BatchDone bid values) = values
values_in (ActDone tid m c value actors) = []
values_in (Checkpoint generation next_tid next_bid next_c batches acts states) = []

abbrev pub is_genesis : Record → Bool
is_genesis (Genesis logs states) = true
is_genesis (BatchInfo bid actors tids) = false
is_genesis (BatchComplete bid actor state) = false
is_genesis (BatchCommit bid) = false
is_genesis (ActPrepare tid actor state) = false
is_genesis (ActCommit tid m c actors) = false
is_genesis (BatchDone bid values) = false
is_genesis (ActDone tid m c value actors) = false
is_genesis (Checkpoint generation next_tid next_bid next_c batches acts states) = false

abbrev pub geneses : List (List Record) → List Record
geneses logs = filter is_genesis (all_of logs)
