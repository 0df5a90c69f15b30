-- Whom a follower of growing logs takes, round by round, and which states they leave. A round reads lists of records, one for each log,
-- and knows what the round before read. A commit is told by the key of its record.
use Rattle.std.specs.Prelude.{◌≡◌, ℕ, ◌⊎◌, Some, List, [], ◌∷◌, ◌++◌, map, slice_get, Contains}
use Rattle.std.specs.List.{AllByRecursion, AllZip, AllPairs, enumerate_from}
use Rattle.snap_base.specs.declared.transactions.State.{State}
use Rattle.txn_records.specs.declared.records.Record.{Record}
use Rattle.txn_records.specs.declared.records.Record.TheVariants.{Genesis, BatchInfo, BatchComplete, BatchCommit, ActPrepare, ActCommit, BatchDone, ActDone, Checkpoint}
use Rattle.txn_records.specs.declared.keys.Key.{Key}
use Rattle.txn_records.specs.declared.keys.Key.TheVariants as keys
use Rattle.snap_recover.specs.declared.openings.Kept.{Kept}
use Rattle.snap_recover.specs.Logs.{log_of, IsLastOf, states_in}
use Rattle.snap_recover.specs.Opening.{IsIn, IsActIn, IsKeptIn, ComesBefore, AreBegunWith, commit_of}

-- ---- records

-- its log has the commit with this key
abbrev pub HasCommit : List (List Record) → Key → Type 0
HasCommit logs keys.Genesis = ⊥
HasCommit logs (keys.Info bid) = ⊥
HasCommit logs (keys.Complete bid actor) = ⊥
HasCommit logs (keys.Commit bid) = IsIn logs bid
HasCommit logs (keys.Prepare tid actor) = ⊥
HasCommit logs (keys.Act tid) = IsActIn logs tid
HasCommit logs keys.Checkpoint = ⊥

-- the record tells a state of the actor, of the one with this commit
abbrev pub Tells : ℕ → Key → Record → Type 0
Tells a k (Genesis count states) = ⊥
Tells a k (BatchInfo bid actors tids) = ⊥
Tells a k (BatchComplete bid actor state) = (actor.0 ≡ a) × (k ≡ keys.Commit bid)
Tells a k (BatchCommit bid) = ⊥
Tells a k (ActPrepare tid actor state) = (actor.0 ≡ a) × (k ≡ keys.Act tid)
Tells a k (ActCommit tid m c actors) = ⊥
Tells a k (BatchDone bid values) = ⊥
Tells a k (ActDone tid m c value actors) = ⊥
Tells a k (Checkpoint generation next_tid next_bid next_c batches acts states) = ⊥

-- ---- who stands ahead of whom

-- the record tells a state of the actor, of one that counts
abbrev pub TellsOf : (Key → Type 0) → ℕ → Record → Type 0
TellsOf Counts a r = (k : Key) × Counts k × Tells a k r

-- The actor has this state behind these records: that of the last of them that tells one of it, of one that counts, and where none does
-- the state with which it begins.
abbrev pub IsLeftBy : (Key → Type 0) → (ℕ → State → Type 0) → ℕ → List Record → State → Type 0
IsLeftBy Counts Begins a rs s =
    ((r : Record) × (states_in r ≡ s ∷ []) × IsLastOf (TellsOf Counts a) rs r)
    ⊎ (AllByRecursion (λ r. ¬ TellsOf Counts a r) rs × Begins a s)

-- the record tells another state than the actor has behind these records
abbrev pub IsAnother : (Key → Type 0) → (ℕ → State → Type 0) → ℕ → List Record → Record → Type 0
IsAnother Counts Begins a front r = (s : State) → IsLeftBy Counts Begins a front s → ¬ (states_in r ≡ s ∷ [])

-- Of these records one of this one changes the actor: it tells another state of it than it has behind the records before.
pub record HasChanged (Counts : Key → Type 0) (Begins : ℕ → State → Type 0) (a : ℕ) (this : Key) (rs : List Record) : Type 0 where
  pub front : List Record
  pub own : Record
  pub behind : List Record
  pub splits : rs ≡ front ++ own ∷ behind
  pub is_own : Tells a this own
  pub another : IsAnother Counts Begins a front own

-- of these records one of this one changes the actor ahead of a record that tells a state of it of that one
pub record ChangesAhead (Counts : Key → Type 0) (Begins : ℕ → State → Type 0) (a : ℕ) (this that : Key) (rs : List Record) : Type 0 where
  pub front : List Record
  pub own : Record
  pub behind : List Record
  pub splits : rs ≡ front ++ own ∷ behind
  pub is_own : Tells a that own
  pub ahead : HasChanged Counts Begins a this front

-- the lists began with this state of the actor
abbrev pub IsFirstState : List (List Record) → ℕ → State → Type 0
IsFirstState logs a s = (first : List State) × AreBegunWith logs first × (slice_get first a ≡ Some s)

-- This one stands ahead of that one on some actor: a record of this one changes the actor, as it tells another state than the last record
-- before it of one whose commit is there, or than the first state; and a record of that one comes behind. Who left an actor as it was
-- stands ahead of nobody there.
abbrev pub StandsAhead : List (List Record) → Key → Key → Type 0
StandsAhead logs this that = (a : ℕ) × ChangesAhead (HasCommit logs) (IsFirstState logs) a this that (log_of logs a)

-- ---- whom a round takes

-- A round may take these: all that the rounds before took, and others whose commits the round before read, with all that stand ahead of
-- them in this round's lists and are committed there.
pub record MayTake (taken : List Key) (before now : List (List Record)) (members : List Key) : Type 0 where
  pub stay : (k : Key) → Contains taken k → Contains members k
  pub seen : (k : Key) → Contains members k → ¬ Contains taken k → HasCommit before k
  pub rest_on : (k j : Key) → Contains members k → ¬ Contains taken k → StandsAhead now j k → HasCommit now j → Contains members j

-- It takes as many as it may.
pub record TakesMost (taken : List Key) (before now : List (List Record)) (members : List Key) : Type 0 where
  pub may : MayTake taken before now members
  pub greatest : (others : List Key) → MayTake taken before now others → (k : Key) → Contains others k → Contains members k

-- the members, in the order of their places, as this round's lists tell them
pub record AreMembers (taken : List Key) (before now : List (List Record)) (members : List Kept) : Type 0 where
  pub takes : TakesMost taken before now (map commit_of members)
  pub ascend : AllPairs ComesBefore members
  pub each : AllByRecursion (IsKeptIn now) members

-- ---- states

-- the record tells a state of the actor, of a member
abbrev pub CountsFor : List Key → ℕ → Record → Type 0
CountsFor members a r = (k : Key) × Contains members k × Tells a k r

-- The state of actor a is that of the last record of a member in its log, and where there is none it is the first one.
abbrev pub IsFollowedState : List Key → List (List Record) → ℕ → State → State → Type 0
IsFollowedState members logs a first s =
    ((r : Record) × (states_in r ≡ s ∷ []) × IsLastOf (CountsFor members a) (log_of logs a) r)
    ⊎ (AllByRecursion (λ r. ¬ CountsFor members a r) (log_of logs a) × (s ≡ first))

-- the states of the actors, which began with these
abbrev pub AreFollowedStates : List Key → List (List Record) → List State → List State → Type 0
AreFollowedStates members logs first states = AllZip (λ (x : ℕ × State) s. IsFollowedState members logs x.0 x.1 s) (enumerate_from 0 first) states
