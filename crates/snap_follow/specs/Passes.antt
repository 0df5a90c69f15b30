-- Only private contracts cite this; the rules are specs/Followed.antt and specs/Rounds.antt.
use Rattle.std.specs.Prelude.{⊤, IsTrue, ◌≡◌, ◌≢◌, ◌↔◌, ◌<◌, ◌≤◌, ℕ, ◌+◌, ◌%◌, ◌⊎◌, Bool, true, false, Option, Some, List, [], ◌∷◌, filter, length, map, slice_get, Contains}
use Rattle.std.specs.Option.{option_or}
use Rattle.std.specs.BTreeMap.{BTreeMap, get}
use Rattle.std.specs.BTreeSet as bag
use Rattle.std.specs.BTreeSet.{BTreeSet}
use Rattle.std.specs.Ordering.{nat_cmp}
use Rattle.snap_base.specs.declared.ids.Bid.{Bid}
use Rattle.snap_base.specs.declared.ids.Tid.{Tid}
use Rattle.snap_base.specs.declared.transactions.State.{State}
use Rattle.txn_records.specs.declared.records.Record.{Record}
use Rattle.txn_records.specs.declared.records.Record.TheVariants.{Genesis, BatchInfo, BatchComplete, BatchCommit, ActPrepare, ActCommit, BatchDone, ActDone, Checkpoint}
use Rattle.txn_records.specs.declared.keys.Key.{Key}
use Rattle.txn_records.specs.declared.keys.Key.TheVariants as keys
use Rattle.snap_recover.specs.declared.openings.Kept.{Kept}
use Rattle.snap_recover.specs.declared.openings.Kept.TheVariants as kept
use Rattle.snap_recover.specs.declared.refusals.RecoverNo.TheVariants as recovery
use Rattle.snap_recover.specs.Logs.{log_of, states_in}
use Rattle.snap_recover.specs.Opening.{commit_of}
use Rattle.snap_recover.specs.Passes.{AddsKeyed}
use Rattle.snap_recover.specs.Refusals.{IsLack, IsRefused}
use Rattle.snap_follow.specs.declared.commits.Commits.{Commits}
use Rattle.snap_follow.specs.declared.refusals.FollowNo.{FollowNo}
use Rattle.snap_follow.specs.declared.refusals.FollowNo.TheVariants.{Back, TwoGenesis, LogCount, Range, Missing, Values, Memory}
use Rattle.snap_follow.specs.Followed.{HasCommit, Tells, TellsOf, IsLeftBy, HasChanged, ChangesAhead, IsFirstState}

-- ---- sets of commits

-- the set has the number
abbrev pub In : BTreeSet ℕ → ℕ → Type 0
In set n = IsTrue (bag.contains nat_cmp set n)

-- the set has the commit with this key
abbrev pub IsInSet : Commits → Key → Type 0
IsInSet set keys.Genesis = ⊥
IsInSet set (keys.Info bid) = ⊥
IsInSet set (keys.Complete bid actor) = ⊥
IsInSet set (keys.Commit bid) = In set.batches bid.0
IsInSet set (keys.Prepare tid actor) = ⊥
IsInSet set (keys.Act tid) = In set.acts tid.0
IsInSet set keys.Checkpoint = ⊥

-- the key is that of a commit
abbrev pub IsOfCommit : Key → Type 0
IsOfCommit keys.Genesis = ⊥
IsOfCommit (keys.Info bid) = ⊥
IsOfCommit (keys.Complete bid actor) = ⊥
IsOfCommit (keys.Commit bid) = ⊤
IsOfCommit (keys.Prepare tid actor) = ⊥
IsOfCommit (keys.Act tid) = ⊤
IsOfCommit keys.Checkpoint = ⊥

-- how many commits the set has
abbrev pub size : Commits → ℕ
size set = length set.batches.keys + length set.acts.keys

-- the commit with this key is added
abbrev pub AddsCommit : Key → Commits → Commits → Type 0
AddsCommit k old new = (j : Key) → IsInSet new j ↔ (IsInSet old j ⊎ (k ≡ j))

-- it is taken out, and the set is smaller where it was there
pub record Removes (k : Key) (old new : Commits) : Type 0 where
  pub others : (j : Key) → IsInSet new j ↔ (IsInSet old j × (k ≢ j))
  pub fewer : size new ≤ size old
  pub gone : IsInSet old k → size new < size old

-- the set has these commits and no others
abbrev pub HasAllCommits : List (List Record) → Commits → Type 0
HasAllCommits lists set = (k : Key) → IsInSet set k ↔ HasCommit lists k

abbrev pub HasMembers : List Kept → Commits → Type 0
HasMembers members set = (k : Key) → IsInSet set k ↔ Contains (map commit_of members) k

-- the commit with this key writes to log `log` of `logs`
abbrev pub IsHome : ℕ → ℕ → Key → Type 0
IsHome log logs keys.Genesis = ⊥
IsHome log logs (keys.Info bid) = ⊥
IsHome log logs (keys.Complete bid actor) = ⊥
IsHome log logs (keys.Commit bid) = bid.0 % logs ≡ log
IsHome log logs (keys.Prepare tid actor) = ⊥
IsHome log logs (keys.Act tid) = tid.0 % logs ≡ log
IsHome log logs keys.Checkpoint = ⊥

-- the batches whose commits stand in this log are added
abbrev pub AddsBatches : ℕ → ℕ → List Record → Commits → Commits → Type 0
AddsBatches log logs rs old new =
    AddsKeyed (λ (b : Bid). b.0 % logs ≡ log) (λ b. keys.Commit b) rs (λ b. IsInSet old (keys.Commit b)) (λ b. IsInSet new (keys.Commit b))

-- and the undeclared transactions
abbrev pub AddsActs : ℕ → ℕ → List Record → Commits → Commits → Type 0
AddsActs log logs rs old new =
    AddsKeyed (λ (t : Tid). t.0 % logs ≡ log) (λ t. keys.Act t) rs (λ t. IsInSet old (keys.Act t)) (λ t. IsInSet new (keys.Act t))

-- ---- the states that the committed ones leave, in one log

-- the actor begins with this state
abbrev pub BeginsWith : List State → ℕ → State → Type 0
BeginsWith first a s = slice_get first a ≡ Some s

-- with these the lists begin, as far as they tell it
abbrev pub AreFirstStates : List (List Record) → List State → Type 0
AreFirstStates now first = (a : ℕ) (s : State) → BeginsWith first a s ↔ IsFirstState now a s

-- the state that is noted of the actor, or where there is none the one with which it begins
abbrev pub held_state : List State → BTreeMap ℕ State → ℕ → Option State
held_state first states a = option_or (get nat_cmp states a) (slice_get first a)

abbrev pub IsHeld : List State → BTreeMap ℕ State → ℕ → State → Type 0
IsHeld first states a s = held_state first states a ≡ Some s

-- of the actors whose log this is those are held that the committed ones left behind these records
abbrev pub HoldsStates : List State → Commits → ℕ → ℕ → List Record → BTreeMap ℕ State → Type 0
HoldsStates first there log logs rs states = (a : ℕ) (s : State) →
    a % logs ≡ log → IsHeld first states a s ↔ IsLeftBy (IsInSet there) (BeginsWith first) a rs s

-- this state is held of the actor from here on, where this one is committed
abbrev pub HoldsOwn : List State → Commits → Key → ℕ → State → BTreeMap ℕ State → BTreeMap ℕ State → Type 0
HoldsOwn first there k a s old new = (b : ℕ) (t : State) →
    IsHeld first new b t ↔ ((IsInSet there k × (a ≡ b) × (s ≡ t)) ⊎ (¬ (IsInSet there k × (a ≡ b)) × IsHeld first old b t))

-- the state that the record tells is, of a committed one
abbrev pub NotesStates : List State → Commits → ℕ → ℕ → Record → BTreeMap ℕ State → BTreeMap ℕ State → Type 0
NotesStates first there log logs r old new = (a : ℕ) (t : State) → a % logs ≡ log →
    IsHeld first new a t ↔ (((states_in r ≡ t ∷ []) × TellsOf (IsInSet there) a r) ⊎ (¬ TellsOf (IsInSet there) a r × IsHeld first old a t))

-- the record tells another state than is held of the actor
abbrev pub TellsAnother : List State → BTreeMap ℕ State → ℕ → Record → Type 0
TellsAnother first states a r = (s : State) → IsHeld first states a s → ¬ (states_in r ≡ s ∷ [])

-- ---- those that rest on others

-- committed in this round's lists, and not in the set
abbrev pub IsLeftOut : Commits → Commits → Key → Type 0
IsLeftOut there set j = IsInSet there j × ¬ IsInSet set j

-- in the set, and not taken before
abbrev pub IsNewcomer : Commits → Commits → Key → Type 0
IsNewcomer taken set k = IsInSet set k × ¬ IsInSet taken k

-- in these records of the actor's log one changes the actor ahead of the other
abbrev pub IsAheadIn : List State → Commits → ℕ → Key → Key → List Record → Type 0
IsAheadIn first there a j k rs = ChangesAhead (IsInSet there) (BeginsWith first) a j k rs

-- in these records of the actor's log it changes the actor
abbrev pub ChangesIn : List State → Commits → ℕ → Key → List Record → Type 0
ChangesIn first there a j rs = HasChanged (IsInSet there) (BeginsWith first) a j rs

-- in these records of the actor's log one that is left out stands ahead of this one
abbrev pub RestsIn : List State → Commits → Commits → ℕ → List Record → Key → Type 0
RestsIn first there set a rs k = (j : Key) × IsAheadIn first there a j k rs × IsLeftOut there set j

-- one that is left out changes the actor
abbrev pub IsBlocked : List State → Commits → Commits → ℕ → List Record → Type 0
IsBlocked first there set a rs = (j : Key) × ChangesIn first there a j rs × IsLeftOut there set j

-- of the actors whose log this is the set has those that are blocked
abbrev pub HasBlocked : List State → Commits → Commits → ℕ → ℕ → List Record → BTreeSet ℕ → Type 0
HasBlocked first there set log logs rs blocked = (a : ℕ) → In blocked a ↔ ((a % logs ≡ log) × IsBlocked first there set a rs)

-- the new ones that rest on one that is left out, in these records of log `log` of `logs`, are added
abbrev pub AddsLeaving : List State → Commits → Commits → Commits → ℕ → ℕ → List Record → List Key → List Key → Type 0
AddsLeaving first there taken set log logs rs old new = (k : Key) →
    Contains new k ↔ (Contains old k ⊎ (IsNewcomer taken set k × ((a : ℕ) × (a % logs ≡ log) × RestsIn first there set a rs k)))

-- this one is added, where it is new and the actor blocked
abbrev pub LeavesBlocked : Commits → Commits → Key → ℕ → BTreeSet ℕ → List Key → List Key → Type 0
LeavesBlocked taken set k a blocked old new = (j : Key) → Contains new j ↔ (Contains old j ⊎ ((k ≡ j) × IsNewcomer taken set k × In blocked a))

-- the same, of the one whose record this is
abbrev pub NotesLeaving : Commits → Commits → ℕ → ℕ → Record → BTreeSet ℕ → List Key → List Key → Type 0
NotesLeaving taken set log logs r blocked old new = (k : Key) →
    Contains new k ↔ (Contains old k ⊎ (IsNewcomer taken set k × ((a : ℕ) × (a % logs ≡ log) × Tells a k r × In blocked a)))

-- the actor is blocked from here on, where this one is left out and the state another than is held
abbrev pub BlocksOwn : List State → Commits → Commits → Key → ℕ → State → BTreeMap ℕ State → BTreeSet ℕ → BTreeSet ℕ → Type 0
BlocksOwn first there set k a s states old new = (b : ℕ) → In new b ↔ (In old b ⊎ ((a ≡ b) × IsLeftOut there set k × ¬ IsHeld first states a s))

-- the same, of the one whose record this is
abbrev pub NotesBlocked : List State → Commits → Commits → ℕ → ℕ → Record → BTreeMap ℕ State → BTreeSet ℕ → BTreeSet ℕ → Type 0
NotesBlocked first there set log logs r states old new = (a : ℕ) →
    In new a ↔ (In old a ⊎ ((a % logs ≡ log) × ((j : Key) × Tells a j r × IsLeftOut there set j × TellsAnother first states a r)))

-- in the lists this one changed some actor, of the committed ones, ahead of that one
abbrev pub IsAheadOf : List State → Commits → List (List Record) → Key → Key → Type 0
IsAheadOf first there now j k = (a : ℕ) × IsAheadIn first there a j k (log_of now a)

-- in the lists one that is left out stands ahead of this one
abbrev pub RestsOnLeftOut : List State → Commits → Commits → List (List Record) → Key → Type 0
RestsOnLeftOut first there set now k = (j : Key) × IsAheadOf first there now j k × IsLeftOut there set j

-- these are the new ones that rest on one that is left out
abbrev pub AreLeaving : List State → Commits → Commits → Commits → List (List Record) → List Key → Type 0
AreLeaving first there taken set now leaving = (k : Key) → Contains leaving k ↔ (IsNewcomer taken set k × RestsOnLeftOut first there set now k)

-- of these each new one has all that stand ahead of it and are committed
abbrev pub HaveAllAhead : List State → Commits → Commits → List (List Record) → List Key → Type 0
HaveAllAhead first there taken now members = (k j : Key) → Contains members k → ¬ IsInSet taken k → IsAheadOf first there now j k → IsInSet there j → Contains members j

-- some were left out of the set, as long as they rested on others that were
pub record Settles (first : List State) (there taken : Commits) (now : List (List Record)) (old new : Commits) : Type 0 where
  pub within : (k : Key) → IsInSet new k → IsInSet old k
  pub stay : (k : Key) → IsInSet taken k → IsInSet old k → IsInSet new k
  pub kept : (members : List Key) → HaveAllAhead first there taken now members → ((k : Key) → Contains members k → IsInSet old k) → (k : Key) → Contains members k → IsInSet new k

-- and none of it rests on one that was
abbrev pub IsSettled : List State → Commits → Commits → List (List Record) → Commits → Type 0
IsSettled first there taken now set = (k : Key) → IsNewcomer taken set k → ¬ RestsOnLeftOut first there set now k

-- ---- lists with some of the commits

-- of commits only those of the set are kept
abbrev pub is_chosen : Commits → Record → Bool
is_chosen set (Genesis count states) = true
is_chosen set (BatchInfo bid actors tids) = true
is_chosen set (BatchComplete bid actor state) = true
is_chosen set (BatchCommit bid) = bag.contains nat_cmp set.batches bid.0
is_chosen set (ActPrepare tid actor state) = true
is_chosen set (ActCommit tid m c actors) = bag.contains nat_cmp set.acts tid.0
is_chosen set (BatchDone bid values) = bag.contains nat_cmp set.batches bid.0
is_chosen set (ActDone tid m c value actors) = bag.contains nat_cmp set.acts tid.0
is_chosen set (Checkpoint generation next_tid next_bid next_c batches acts states) = false

abbrev pub chosen_lists : Commits → List (List Record) → List (List Record)
chosen_lists set lists = map (filter (is_chosen set)) lists

-- the set has its commit
abbrev pub is_member : Commits → Kept → Bool
is_member set (kept.Batch bid tids values) = bag.contains nat_cmp set.batches bid.0
is_member set (kept.Act tid m c value) = bag.contains nat_cmp set.acts tid.0

-- ---- refusals

-- they are refused for their Genesis or a number
abbrev pub IsBadBeginning : List (List Record) → FollowNo → Type 0
IsBadBeginning lists (Back log) = ⊥
IsBadBeginning lists TwoGenesis = IsRefused lists recovery.TwoGenesis
IsBadBeginning lists (LogCount count found) = IsRefused lists (recovery.LogCount count found)
IsBadBeginning lists (Range k log) = IsRefused lists (recovery.Range k log)
IsBadBeginning lists (Missing k log) = ⊥
IsBadBeginning lists (Values k log count found) = ⊥
IsBadBeginning lists Memory = ⊤

-- something is lacking of what is committed
abbrev pub IsNotWhole : List (List Record) → FollowNo → Type 0
IsNotWhole some (Back log) = ⊥
IsNotWhole some TwoGenesis = ⊥
IsNotWhole some (LogCount count found) = ⊥
IsNotWhole some (Range k log) = ⊥
IsNotWhole some (Missing k log) = IsLack some (recovery.Missing k log)
IsNotWhole some (Values k log count found) = IsLack some (recovery.Values k log count found)
IsNotWhole some Memory = ⊤
