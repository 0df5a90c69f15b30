-- What logs recover to: which batches and undeclared transactions are in, the state of each actor, and the next
-- numbers. An undeclared transaction is called an ACT.
use Rattle.std.specs.Prelude.{◌≡◌, ℕ, ℤ, ◌+◌, ◌<◌, ◌≤◌, ◌⊎◌, Option, Some, None, List, [], ◌∷◌, ◌++◌, length, map, Contains, ⊤}
use Rattle.std.specs.List.{AllByRecursion, AllZip, AllPairs, flat_map, enumerate_from}
pub use Rattle.snap_base.specs.Numbers.{greatest}
use Rattle.snap_base.specs.declared.ids.ActorId.{ActorId}
use Rattle.snap_base.specs.declared.ids.Bid.{Bid}
use Rattle.snap_base.specs.declared.ids.Tid.{Tid}
use Rattle.snap_base.specs.declared.transactions.State.{State}
use Rattle.txn_records.specs.declared.records.Record.{Record}
use Rattle.txn_records.specs.declared.records.Record.TheVariants.{Genesis, BatchInfo, BatchComplete, BatchCommit, ActPrepare, ActCommit, BatchDone, ActDone, Checkpoint}
use Rattle.txn_records.specs.declared.keys.Key.{Key}
use Rattle.txn_records.specs.declared.keys.Key.TheVariants as keys
use Rattle.txn_records.specs.Records.{key}
use Rattle.snap_recover.specs.declared.openings.Opening.{Opening}
use Rattle.snap_recover.specs.declared.ranges.TheConstants.{GREATEST_NUMBER}
use Rattle.snap_recover.specs.declared.openings.Kept.{Kept}
use Rattle.snap_recover.specs.declared.openings.Kept.TheVariants as kept
use Rattle.snap_recover.specs.Logs.{all_of, log_of, HasKey, IsLastOf, actors_in, tids_in, bids_in, commits_in, states_in, values_in, geneses}

-- ---- batches

-- A batch is in where its log has its commit.
abbrev pub IsIn : List (List Record) → Bid → Type 0
IsIn logs bid = HasKey (log_of logs bid.0) (keys.Commit bid)

-- what its log says of a batch: its actors and its transactions; where it says so twice, the last counts
abbrev pub IsInfoOf : List (List Record) → Bid → List ActorId → List Tid → Type 0
IsInfoOf logs bid actors tids = IsLastOf (λ r. key r ≡ keys.Info bid) (log_of logs bid.0) (BatchInfo bid actors tids)

-- the record is the batch's commit; of two the last counts
abbrev pub IsCommitOf : List (List Record) → Bid → Record → Type 0
IsCommitOf logs bid r = IsLastOf (λ x. key x ≡ keys.Commit bid) (log_of logs bid.0) r

-- a commit that tells values tells one for each of these transactions
abbrev pub FitsTids : Record → List Tid → Type 0
FitsTids (Genesis count states) tids = ⊤
FitsTids (BatchInfo bid actors tids') tids = ⊤
FitsTids (BatchComplete bid actor state) tids = ⊤
FitsTids (BatchCommit bid) tids = ⊤
FitsTids (ActPrepare tid actor state) tids = ⊤
FitsTids (ActCommit tid m c actors) tids = ⊤
FitsTids (BatchDone bid values) tids = length values ≡ length tids
FitsTids (ActDone tid m c value actors) tids = ⊤
FitsTids (Checkpoint generation next_tid next_bid next_c batches acts states) tids = ⊤

-- a batch has as many values as transactions, or its commit tells none
pub record HasItsValues (logs : List (List Record)) (bid : Bid) : Type 0 where
  pub actors : List ActorId
  pub tids : List Tid
  pub commit : Record
  pub info_is : IsInfoOf logs bid actors tids
  pub commit_is : IsCommitOf logs bid commit
  pub fits : FitsTids commit tids

-- the actor's log says that it has run its part of the batch
abbrev pub HasCompleted : List (List Record) → Bid → ActorId → Type 0
HasCompleted logs bid actor = HasKey (log_of logs actor.0) (keys.Complete bid actor)

-- nothing is lacking of a batch
abbrev pub IsBatchWhole : List (List Record) → Bid → Type 0
IsBatchWhole logs bid = (actors : List ActorId) × (tids : List Tid) × IsInfoOf logs bid actors tids × AllByRecursion (HasCompleted logs bid) actors

-- ---- ACTs

-- An ACT is in where its log has its commit.
abbrev pub IsActIn : List (List Record) → Tid → Type 0
IsActIn logs tid = HasKey (log_of logs tid.0) (keys.Act tid)

-- the commit of an ACT: format 2 tells its value
abbrev pub act_record : Tid → Bid → ℕ → Option ℤ → List ActorId → Record
act_record tid m c None actors = ActCommit tid m c actors
act_record tid m c (Some value) actors = ActDone tid m c value actors

-- what its commit says of an ACT: the batch behind which it comes, its number, its value where that is known, and its actors;
-- of two the last counts
abbrev pub IsActOf : List (List Record) → Tid → Bid → ℕ → Option ℤ → List ActorId → Type 0
IsActOf logs tid m c value actors = IsLastOf (λ r. key r ≡ keys.Act tid) (log_of logs tid.0) (act_record tid m c value actors)

-- the actor's log has the state that the ACT gave it
abbrev pub HasPrepared : List (List Record) → Tid → ActorId → Type 0
HasPrepared logs tid actor = HasKey (log_of logs actor.0) (keys.Prepare tid actor)

-- nothing is lacking of an ACT
abbrev pub IsActWhole : List (List Record) → Tid → Type 0
IsActWhole logs tid =
    (m : Bid) × (c : ℕ) × (value : Option ℤ) × (actors : List ActorId)
    × IsActOf logs tid m c value actors × AllByRecursion (HasPrepared logs tid) actors

-- ---- states

-- a record that tells a state of the actor, of a batch or an ACT that is in
abbrev pub Counts : List (List Record) → ℕ → Record → Type 0
Counts logs a (Genesis count states) = ⊥
Counts logs a (BatchInfo bid actors tids) = ⊥
Counts logs a (BatchComplete bid actor state) = (actor.0 ≡ a) × IsIn logs bid
Counts logs a (BatchCommit bid) = ⊥
Counts logs a (ActPrepare tid actor state) = (actor.0 ≡ a) × IsActIn logs tid
Counts logs a (ActCommit tid m c actors) = ⊥
Counts logs a (BatchDone bid values) = ⊥
Counts logs a (ActDone tid m c value actors) = ⊥
Counts logs a (Checkpoint generation next_tid next_bid next_c batches acts states) = ⊥

-- The state of actor a is that of the last record of its log that counts, and where none does it is the first one.
abbrev pub IsStateOf : List (List Record) → ℕ → State → State → Type 0
IsStateOf logs a first s =
    ((r : Record) × (states_in r ≡ s ∷ []) × IsLastOf (Counts logs a) (log_of logs a) r)
    ⊎ (AllByRecursion (λ r. ¬ Counts logs a r) (log_of logs a) × (s ≡ first))

-- the states of the actors, which began with these
abbrev pub AreStatesOf : List (List Record) → List State → List State → Type 0
AreStatesOf logs first states = AllZip (λ (x : ℕ × State) s. IsStateOf logs x.0 x.1 s) (enumerate_from 0 first) states

-- ---- what is committed

-- the key of the record by which it is in
abbrev pub commit_of : Kept → Key
commit_of (kept.Batch bid tids values) = keys.Commit bid
commit_of (kept.Act tid m c value) = keys.Act tid

-- the batch, or the ACT, is in, and what is kept of it is what its last records tell
abbrev pub IsKeptIn : List (List Record) → Kept → Type 0
IsKeptIn logs (kept.Batch bid tids values) =
    IsIn logs bid × ((actors : List ActorId) × IsInfoOf logs bid actors tids)
    × ((r : Record) × IsCommitOf logs bid r × (values ≡ values_in r))
IsKeptIn logs (kept.Act tid m c value) = (actors : List ActorId) × IsActOf logs tid m c value actors

-- The order of the places: batches by their numbers, and ACTs behind the batch of their m and before all later
-- ones, by their commit numbers and then by their tids.
abbrev pub ComesBefore : Kept → Kept → Type 0
ComesBefore (kept.Batch bid tids values) (kept.Batch bid' tids' values') = bid.0 < bid'.0
ComesBefore (kept.Batch bid tids values) (kept.Act tid m c value) = bid.0 ≤ m.0
ComesBefore (kept.Act tid m c value) (kept.Batch bid tids values) = m.0 < bid.0
ComesBefore (kept.Act tid m c value) (kept.Act tid' m' c' value') =
    (m.0 < m'.0) ⊎ ((m.0 ≡ m'.0) × ((c < c') ⊎ ((c ≡ c') × (tid.0 < tid'.0))))

-- the batches and the ACTs that are in, in the order of their places
pub record IsCommitted (logs : List (List Record)) (committed : List Kept) : Type 0 where
  pub ascend : AllPairs ComesBefore committed
  pub each : AllByRecursion (IsKeptIn logs) committed
  pub all_batches : (bid : Bid) → IsIn logs bid → Contains (map commit_of committed) (keys.Commit bid)
  pub all_acts : (tid : Tid) → IsActIn logs tid → Contains (map commit_of committed) (keys.Act tid)

-- nothing is lacking of what is committed, and it is this
pub record AreWhollyCommitted (logs : List (List Record)) (kept : List Kept) : Type 0 where
  pub whole : (bid : Bid) → IsIn logs bid → IsBatchWhole logs bid
  pub acts_whole : (tid : Tid) → IsActIn logs tid → IsActWhole logs tid
  pub valued : (bid : Bid) → IsIn logs bid → HasItsValues logs bid
  pub committed : IsCommitted logs kept

-- ---- next numbers

-- one above all numbers that occur, and at least 1
abbrev pub next_of : (Record → List ℕ) → List (List Record) → ℕ
next_of numbers logs = greatest (flat_map numbers (all_of logs)) + 1

-- ---- the whole

-- the actors are among so many, and no number is too large
pub record IsInRange (actors : ℕ) (r : Record) : Type 0 where
  pub actors_below : AllByRecursion (λ a. a < actors) (actors_in r)
  pub numbers_below : AllByRecursion (λ n. n ≤ GREATEST_NUMBER) (bids_in r ++ (commits_in r ++ tids_in r))

-- The logs have one Genesis, which tells their number and the first states, and their records are in range.
pub record AreBegunWith (logs : List (List Record)) (first : List State) : Type 0 where
  pub one : geneses logs ≡ Genesis (length logs) first ∷ []
  pub range : AllByRecursion (IsInRange (length first)) (all_of logs)

-- The logs recover to the opening: nothing is lacking of what is in, and the opening has the states, what is committed, and the
-- next numbers.
pub record IsRecovered (logs : List (List Record)) (o : Opening) : Type 0 where
  pub begun : (first : List State) × AreBegunWith logs first × AreStatesOf logs first o.states
  pub whole : (bid : Bid) → IsIn logs bid → IsBatchWhole logs bid
  pub acts_whole : (tid : Tid) → IsActIn logs tid → IsActWhole logs tid
  pub valued : (bid : Bid) → IsIn logs bid → HasItsValues logs bid
  pub committed : IsCommitted logs o.committed
  pub next_tid : o.next_tid.0 ≡ next_of tids_in logs
  pub next_bid : o.next_bid.0 ≡ next_of bids_in logs
  pub next_c : o.next_c ≡ next_of commits_in logs
