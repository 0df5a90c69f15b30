-- What logs that a crash left recover to, over the records of one run, and what every moment owes.
use Rattle.std.specs.Prelude.{◌≡◌, ℕ, ℤ, ◌<◌, ◌%◌, ◌==◌, Bool, true, false, ◌&&◌, Some, List, [], ◌∷◌, ◌++◌, length, filter, ◌||◌, is_some, ⊤}
use Rattle.std.specs.List.{AllByRecursion, list_any, flat_map}
use Rattle.snap_base.specs.declared.transactions.State.{State}
use Rattle.snap_base.specs.declared.transactions.TxResult.TheVariants.{Value}
use Rattle.snap_base.specs.declared.verdicts.Place.{Place}
use Rattle.snap_base.specs.declared.verdicts.Verdict.TheVariants as verdicts
use Rattle.protocol.specs.Fixed.{Fixed, IsText}
use Rattle.protocol.specs.Facts.{Alone, state_in}
use Rattle.protocol.specs.Records.{LogRecord, BatchInfo, BatchComplete, BatchDone, ActPrepare, ActDone, is_complete, is_commit, is_prepare, is_act_commit}
use Rattle.protocol.specs.Parts.{Who, OfBatch, OfAct, Machine}
use Rattle.protocol.specs.Events.{Event}
use Rattle.protocol.specs.Words.{is_value}
use Rattle.protocol.specs.Verdicts.{verdict}
use Rattle.protocol.specs.Runs.{IsRun, reached}
use Rattle.protocol.specs.History.{Done, History, history}
use Rattle.protocol.specs.Chains.{IsClosedSet, IsSerial, serial_run}
use Rattle.protocol_laws.specs.Commits.{is_kept}
use Rattle.protocol_laws.specs.Told.{IsAmongDone}
use Rattle.protocol.specs.Moments.{Moment, IsLeft, left_in}
use Rattle.protocol.specs.Rests.{HasFacts}

-- ---- recovery over what the logs hold; there are so many logs, and log l holds `logs l`

-- its commit record is there
abbrev pub is_in : ℕ → (ℕ → List LogRecord) → Who → Bool
is_in many logs (OfBatch k) = list_any (is_commit k) (logs (k % many))
is_in many logs (OfAct t) = list_any (is_act_commit t) (logs (t % many))

-- a record that tells a state of the actor, of one that is in
abbrev pub tells_member_state : ℕ → (ℕ → List LogRecord) → ℕ → LogRecord → Bool
tells_member_state many logs a (BatchInfo bid actors tids) = false
tells_member_state many logs a (BatchComplete bid actor state) = (actor == a) && is_in many logs (OfBatch bid)
tells_member_state many logs a (BatchDone bid vs) = false
tells_member_state many logs a (ActPrepare tid actor state) = (actor == a) && is_in many logs (OfAct tid)
tells_member_state many logs a (ActDone tid m c v actors) = false

abbrev pub state_told : State → LogRecord → State
state_told s (BatchInfo bid actors tids) = s
state_told s (BatchComplete bid actor state) = state
state_told s (BatchDone bid vs) = s
state_told s (ActPrepare tid actor state) = state
state_told s (ActDone tid m c v actors) = s

abbrev pub last_told : State → List LogRecord → State
last_told s [] = s
last_told s (r ∷ rs) = last_told (state_told s r) rs

-- the state of an actor: that of the last record that counts, or the first one
abbrev pub recovered_state : ℕ → (ℕ → List LogRecord) → ℕ → State → State
recovered_state many logs a first = last_told first (filter (tells_member_state many logs a) (logs (a % many)))

-- what commit records rest on is there
pub record BatchIsWhole (many : ℕ) (logs : ℕ → List LogRecord) (k : ℕ) : Type 0 where
  pub actors : List ℕ
  pub tids : List ℕ
  pub front : List LogRecord
  pub rest : List LogRecord
  pub info : logs (k % many) ≡ front ++ BatchInfo k actors tids ∷ rest
  pub completes : AllByRecursion (λ a. list_any (is_complete k a) (logs (a % many)) ≡ true) actors

pub record ActIsWhole (many : ℕ) (logs : ℕ → List LogRecord) (t : ℕ) : Type 0 where
  pub m : ℕ
  pub c : ℕ
  pub v : ℤ
  pub actors : List ℕ
  pub front : List LogRecord
  pub rest : List LogRecord
  pub commit : logs (t % many) ≡ front ++ ActDone t m c v actors ∷ rest
  pub prepares : AllByRecursion (λ a. list_any (is_prepare t a) (logs (a % many)) ≡ true) actors

-- the numbers that a record names
abbrev pub bids_in : LogRecord → List ℕ
bids_in (BatchInfo bid actors tids) = bid ∷ []
bids_in (BatchComplete bid actor state) = bid ∷ []
bids_in (BatchDone bid vs) = bid ∷ []
bids_in (ActPrepare tid actor state) = []
bids_in (ActDone tid m c v actors) = m ∷ []

abbrev pub tids_in : LogRecord → List ℕ
tids_in (BatchInfo bid actors tids) = tids
tids_in (BatchComplete bid actor state) = []
tids_in (BatchDone bid vs) = []
tids_in (ActPrepare tid actor state) = tid ∷ []
tids_in (ActDone tid m c v actors) = tid ∷ []

abbrev pub cs_in : LogRecord → List ℕ
cs_in (ActDone tid m c v actors) = c ∷ []
cs_in _ = []

-- no number of a kind in any log reaches this one
abbrev pub IsAboveAll : (LogRecord → List ℕ) → (ℕ → List LogRecord) → ℕ → Type 0
IsAboveAll numbers logs next = (l : ℕ) → AllByRecursion (λ n. n < next) (flat_map numbers (logs l))

-- ---- what every moment owes

-- the transactions that are recovered
abbrev pub members : ℕ → (ℕ → List LogRecord) → History → List Done
members many logs h = filter (λ d. is_in many logs d.who && is_value d.result) h.committed

pub record HasMember (t : ℕ) (ds : List Done) : Type 0 where
  pub done : Done
  pub front : List Done
  pub rest : List Done
  pub splits : ds ≡ front ++ done ∷ rest
  pub is_it : done.tid ≡ t

-- what holds of the transactions that are recovered
pub record CrashStands {C : Type 0} (w : Fixed C) (finish : C → List State → Alone) (es : List Event) (s : Machine C) (h : History) (logs : ℕ → List LogRecord) : Type 0 where
  -- who is in had committed with a value by then, a reader or not
  pub all_done : (who : Who) → is_in w.text.logs logs who ≡ true → (is_kept who h.kept || is_kept who h.kept_readers) ≡ true
  -- with each member all that the whole run places before it, and that committed with a value
  pub closed : IsClosedSet (λ t. HasMember t (members w.text.logs logs h)) (history w es)
  -- who was told that it committed is a member
  pub acknowledged : (n : ℕ) (p : Place) (v : ℤ) → verdict n s.book s.desk ≡ Some (verdicts.Committed p v) → IsAmongDone n p (Value v) (members w.text.logs logs h)
  -- one after the other in the order of places the members give their results
  pub serial : IsSerial w finish (members w.text.logs logs h)

pub record CrashHolds {C : Type 0} (w : Fixed C) (finish : C → List State → Alone) (es : List Event) (s : Machine C) (h : History) (logs : ℕ → List LogRecord) : Type 0 where
  pub stands : CrashStands w finish es s h logs
  -- recovery lacks nothing
  pub whole_batches : (k : ℕ) → is_in w.text.logs logs (OfBatch k) ≡ true → BatchIsWhole w.text.logs logs k
  pub whole_acts : (t : ℕ) → is_in w.text.logs logs (OfAct t) ≡ true → ActIsWhole w.text.logs logs t
  -- the states are those that the members leave
  pub states : (a : ℕ) → a < length w.text.opening.states → recovered_state w.text.logs logs a (state_in w.text.opening.states a) ≡ state_in (serial_run w finish (members w.text.logs logs h)).world a

-- At every moment of every run, whatever the logs are left with.
abbrev pub AtEveryMoment : {C : Type 0} → (Fixed C → (C → List State → Alone) → List Event → Machine C → History → (ℕ → List LogRecord) → Type 0) → Type 0
AtEveryMoment {C} P =
    (w : Fixed C) (finish : C → List State → Alone) (es : List Event) (m : Moment w es) (kept : ℕ → ℕ)
    → HasFacts w finish → IsText w.text → IsRun w es → IsLeft w es m kept
    → P w finish es (reached w m.events) (history w m.events) (left_in (reached w m.events) kept)

-- ---- what implies the serial half, at one actor each

-- In the order of commits: behind who came to the actor, committed with a value and is no member, no member came, unless both
-- only read.
abbrev pub NoneMissed : ℕ → (Done → Bool) → List Done → Type 0
NoneMissed a member [] = ⊤
NoneMissed a member (d ∷ ds) =
    (member d ≡ false → is_some (d.views a) ≡ true → is_value d.result ≡ true → AllByRecursion (λ e. member e ≡ true → (d.reader && e.reader) ≡ false → is_some (e.views a) ≡ false) ds) × NoneMissed a member ds
