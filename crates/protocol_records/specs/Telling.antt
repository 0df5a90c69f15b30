-- What the records of an actor tell of its state, beside its long schedule.
-- Only proofs cite this; the rule is `CrashHolds` (Crash).
use Rattle.std.specs.Prelude.{◌≡◌, ℕ, ◌%◌, ◌==◌, Bool, true, false, not, ◌&&◌, ◌||◌, if◌then◌else◌, List, [], ◌∷◌, filter, slice_index_or, ⊤}
use Rattle.std.specs.List.{AllByRecursion, list_any}
use Rattle.snap_base.specs.declared.transactions.State.{State}
use Rattle.protocol.specs.Fixed.{Fixed, no_state}
use Rattle.protocol.specs.Records.{LogRecord, BatchInfo, BatchComplete, BatchDone, ActPrepare, ActDone}
use Rattle.protocol.specs.Parts.{Who, OfBatch, OfAct, Machine}
use Rattle.protocol.specs.Words.{is_who, is_act_who, is_value}
use Rattle.protocol.specs.Effects.{log_at}
use Rattle.protocol.specs.History.{Done, History, Slice, Ran, Stands, Gone}
use Rattle.protocol_laws.specs.Commits.{is_kept, last_state, reads_who}
pub use Rattle.protocol_laws.specs.Undo.{end_state}
use Rattle.protocol_records.specs.Logged.{is_on, is_sure}

pub record One : Type 0 where
  pub who : Who
  pub state : State

-- the records of an actor's states, in order
abbrev pub told_states : ℕ → List LogRecord → List One
told_states a [] = []
told_states a (BatchInfo k actors tids ∷ rs) = told_states a rs
told_states a (BatchComplete k b st ∷ rs) = if b == a then record { who = OfBatch k; state = st } ∷ told_states a rs else told_states a rs
told_states a (BatchDone k vs ∷ rs) = told_states a rs
told_states a (ActPrepare t b st ∷ rs) = if b == a then record { who = OfAct t; state = st } ∷ told_states a rs else told_states a rs
told_states a (ActDone t m c v actors ∷ rs) = told_states a rs

abbrev pub names : Who → List One → Bool
names y os = list_any (λ o. is_who y o.who) os

-- Where this one is on the long schedule, the state told is the one after it, all that stand ahead of it are complete
-- batches, and nobody ahead of it is told later.
abbrev pub TellsState : State → Who → State → List One → List Ran → Type 0
TellsState s y st later [] = ⊤
TellsState s y st later (Stands z c ss ∷ rs) =
    (is_who z y ≡ true → st ≡ end_state s ss)
    × (is_who z y ≡ true → is_act_who z ≡ false → c ≡ true)
    × (is_who z y ≡ false → is_on y rs ≡ true → (c ≡ true) × (names z later ≡ false))
    × (is_who z y ≡ false → TellsState (end_state s ss) y st later rs)
TellsState s y st later (Gone z ss ∷ rs) =
    (is_who z y ≡ true → st ≡ end_state s ss)
    × (is_who z y ≡ false → is_on y rs ≡ true → names z later ≡ false)
    × (is_who z y ≡ false → TellsState (end_state s ss) y st later rs)

-- readers aside
abbrev pub AllTells : (Who → Bool) → State → List One → List Ran → Type 0
AllTells rd s [] long = ⊤
AllTells rd s (o ∷ os) long = (rd o.who ≡ false → TellsState s o.who o.state os long) × AllTells rd s os long

unfoldable pub Telling : {C : Type 0} → Fixed C → Machine C → History → Type 0
Telling w s h = (a : ℕ) → AllTells (reads_who s.book.acts) (slice_index_or w.text.opening.states a no_state) (told_states a (log_at s (a % w.text.logs)).records) (h.long a)

-- ---- what a set of those that committed recovers

-- a set is closed on the actor: who is on the actor, ahead of one on it that is in the set, is in it
abbrev pub FrontIn : (Who → Bool) → (Who → Bool) → List Who → Type 0
FrontIn P on [] = ⊤
FrontIn P on (y ∷ ys) = (on y ≡ true → list_any (λ z. on z && P z) ys ≡ true → P y ≡ true) × FrontIn P on ys

abbrev pub last_one : State → List One → State
last_one s [] = s
last_one s (o ∷ os) = last_one o.state os

-- it committed with a value, and does not only read
abbrev pub writes : Done → Bool
writes d = is_value d.result && not d.reader

-- Readers aside: for each closed set of members, which has with each of them who is on the actor ahead of it, the last of its
-- records tells the state that its last one left.
abbrev pub RecoversAt : ℕ → State → List Who → List Done → List Ran → List One → Type 0
RecoversAt a first kept committed long os =
    (P : Who → Bool) → FrontIn P (λ y. is_on y long) kept → last_one first (filter (λ o. P o.who && is_kept o.who kept) os) ≡ last_state a first (filter (λ d. P d.who && writes d) committed)

unfoldable pub RecoversEachActor : {C : Type 0} → Fixed C → Machine C → History → Type 0
RecoversEachActor w s h = (a : ℕ) → RecoversAt a (slice_index_or w.text.opening.states a no_state) h.kept h.committed (h.long a) (told_states a (log_at s (a % w.text.logs)).records)

-- ---- the records of readers

-- what it has read there is the state that is told
abbrev pub ToldRead : List Slice → One → Type 0
ToldRead reads o = AllByRecursion (λ z. is_who o.who (OfAct z.tid) ≡ true → z.found ≡ o.state) reads

unfoldable pub ToldReads : {C : Type 0} → Fixed C → Machine C → History → Type 0
ToldReads w s h = (a : ℕ) → AllByRecursion (ToldRead (h.reads a)) (told_states a (log_at s (a % w.text.logs)).records)

-- it is on the actor, has not committed, and does not only read
abbrev pub is_uncommitted_writer : (Who → Bool) → List Who → List Ran → Who → Bool
is_uncommitted_writer rd kept long y = is_on y long && (not (is_kept y kept) && not (rd y))

-- Behind the record of one that is open there, no record is of a reader that committed.
abbrev pub NoneLater : (Who → Bool) → List Who → List One → Type 0
NoneLater open_there readers [] = ⊤
NoneLater open_there readers (o ∷ os) = (open_there o.who ≡ true → AllByRecursion (λ v. is_kept v.who readers ≡ false) os) × NoneLater open_there readers os

unfoldable pub AllNoneLater : {C : Type 0} → Fixed C → Machine C → History → Type 0
AllNoneLater w s h = (a : ℕ) → NoneLater (is_uncommitted_writer (reads_who s.book.acts) h.kept (h.long a)) h.kept_readers (told_states a (log_at s (a % w.text.logs)).records)

-- Of each set that all that is sure is in, the records of readers tell nothing else than the others.
abbrev pub ReadersAside : (Who → Bool) → State → List Who → List Who → List One → Type 0
ReadersAside sure first kept readers os =
    (P : Who → Bool) → ((y : Who) → sure y ≡ true → P y ≡ true)
    → last_one first (filter (λ o. P o.who && (is_kept o.who kept || is_kept o.who readers)) os) ≡ last_one first (filter (λ o. P o.who && is_kept o.who kept) os)

unfoldable pub AllAside : {C : Type 0} → Fixed C → Machine C → History → Type 0
AllAside w s h = (a : ℕ) → ReadersAside (is_sure w.text.logs s.logs) (slice_index_or w.text.opening.states a no_state) h.kept h.kept_readers (told_states a (log_at s (a % w.text.logs)).records)
