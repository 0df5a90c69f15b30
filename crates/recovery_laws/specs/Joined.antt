-- Whatever a crash leaves of the logs of a run, recovery takes it, and gives what the laws of the machine speak of.
use Rattle.std.specs.Prelude.{◌≡◌, ◌≢◌, ℕ, ◌<◌, ◌≤◌, max, Some, List, [], ◌∷◌, ◌++◌, length, map, ⊤}
use Rattle.std.specs.List.{AllByRecursion, flat_map}
use Rattle.snap_base.specs.declared.transactions.State.{State}
use Rattle.protocol.specs.Fixed.{Fixed, IsText}
use Rattle.protocol.specs.Facts.{Alone, state_in}
use Rattle.protocol.specs.Rests.{HasFacts}
use Rattle.protocol.specs.Records.{LogRecord}
use Rattle.protocol.specs.Parts.{Machine}
use Rattle.protocol.specs.Events.{Event}
use Rattle.protocol.specs.Runs.{IsRun, reached}
use Rattle.protocol.specs.Moments.{Moment, IsLeft, left_in}
use Rattle.protocol.specs.History.{History, history}
use Rattle.protocol.specs.Chains.{by_place, serial_run}
use Rattle.protocol_records.specs.Crash.{members}
use Rattle.protocol_records.specs.NextNumbers.{IsNumberedWithin, next_tid_of, next_bid_of, next_c_of}
use Rattle.protocol_records.specs.SeveralRuns.{CutRun, MayBe, logs_left, members_of}
use Rattle.txn_records.specs.declared.records.Record.{Record}
use Rattle.snap_recover.specs.declared.openings.Opening.{Opening}
use Rattle.snap_recover.specs.declared.refusals.RecoverNo.{RecoverNo}
use Rattle.snap_recover.specs.declared.refusals.RecoverNo.TheVariants.{Memory}
use Rattle.snap_recover.specs.Logs.{tids_in, bids_in, commits_in}
use Rattle.snap_recover.specs.Opening.{next_of, IsRecovered}
use Rattle.snap_recover.specs.Refusals.{IsRefused}
use Rattle.recovery_laws.specs.Grown.{grown, PlacedResult, answers_of, answer_at, all_in, BeginsWith, BeginsFrom, opening_after, opening_found}

-- Behind the records of earlier runs, what the logs hold of this run recovers to the members.
pub record RecoversToMembers {C : Type 0} (w : Fixed C) (finish : C → List State → Alone) (earlier : List (List Record)) (o : Opening) (s : Machine C) (h : History) (logs : ℕ → List LogRecord) : Type 0 where
  pub recovered : IsRecovered (grown earlier logs) (opening_after w o s logs)
  -- want of memory aside, recovery refuses nothing
  pub taken : (no : RecoverNo) → no ≢ Memory → ¬ IsRefused (grown earlier logs) no
  -- what it gives of this run is the members, in the order of their places, each with its result
  pub ordered : flat_map answers_of (all_in w.text.logs logs s) ≡ map answer_at (by_place (members w.text.logs logs h))
  -- and these are the results that they have alone, one after the other in the order of places from the opening's states
  pub alone : map (λ (x : PlacedResult). x.2) (flat_map answers_of (all_in w.text.logs logs s)) ≡ map Some (serial_run w finish (members w.text.logs logs h)).results
  -- and its next numbers are above theirs
  pub above : AllByRecursion (IsNumberedWithin w (opening_after w o s logs).next_tid.0 (opening_after w o s logs).next_bid.0 (opening_after w o s logs).next_c) (members w.text.logs logs h)
  -- the states are those that the members leave, one after the other in the order of places from the opening's states
  pub states : (a : ℕ) → a < length w.text.opening.states → state_in (opening_after w o s logs).states a ≡ state_in (serial_run w finish (members w.text.logs logs h)).world a

-- At every moment of every run on logs that recover to its opening.
abbrev pub AtEveryMomentOnLogs : {C : Type 0} → (Fixed C → (C → List State → Alone) → List (List Record) → Opening → Machine C → History → (ℕ → List LogRecord) → Type 0) → Type 0
AtEveryMomentOnLogs {C} P =
    (w : Fixed C) (finish : C → List State → Alone) (es : List Event) (m : Moment w es) (kept : ℕ → ℕ) (earlier : List (List Record)) (o : Opening)
    → HasFacts w finish → IsText w.text → IsRun w es → IsLeft w es m kept
    → length earlier ≡ w.text.logs → IsRecovered earlier o → BeginsWith w.text o
    → P w finish earlier o (reached w m.events) (history w m.events) (left_in (reached w m.events) kept)

-- ---- a run that begins with greater numbers than its logs tell

-- The same of a run that began with the states to which its logs recover, and perhaps with greater numbers. What they recover to
-- tells just the numbers that the records name.
pub record RecoversFrom {C : Type 0} (w : Fixed C) (finish : C → List State → Alone) (earlier : List (List Record)) (o : Opening) (s : Machine C) (h : History) (logs : ℕ → List LogRecord) : Type 0 where
  pub recovered : IsRecovered (grown earlier logs) (opening_found w earlier o s logs)
  -- want of memory aside, recovery refuses nothing
  pub taken : (no : RecoverNo) → no ≢ Memory → ¬ IsRefused (grown earlier logs) no
  -- what it gives of this run is the members, in the order of their places, each with its result
  pub ordered : flat_map answers_of (all_in w.text.logs logs s) ≡ map answer_at (by_place (members w.text.logs logs h))
  -- and these are the results that they have alone, one after the other in the order of places from the opening's states
  pub alone : map (λ (x : PlacedResult). x.2) (flat_map answers_of (all_in w.text.logs logs s)) ≡ map Some (serial_run w finish (members w.text.logs logs h)).results
  -- the run's next numbers are above theirs
  pub above : AllByRecursion (IsNumberedWithin w (next_tid_of w logs) (next_bid_of w logs) (next_c_of w logs)) (members w.text.logs logs h)
  -- the states are those that the members leave, one after the other in the order of places from the opening's states
  pub states : (a : ℕ) → a < length w.text.opening.states → state_in (opening_found w earlier o s logs).states a ≡ state_in (serial_run w finish (members w.text.logs logs h)).world a
  -- the run's next numbers are those that the records tell, or those with which it began
  pub next_tid : next_tid_of w logs ≡ max w.text.opening.next_tid (next_of tids_in (grown earlier logs))
  pub next_bid : next_bid_of w logs ≡ max w.text.opening.next_bid (next_of bids_in (grown earlier logs))
  pub next_c : next_c_of w logs ≡ max w.text.opening.next_c (next_of commits_in (grown earlier logs))
  -- and the records tell no smaller ones than before the run
  pub no_less_tid : o.next_tid.0 ≤ next_of tids_in (grown earlier logs)
  pub no_less_bid : o.next_bid.0 ≤ next_of bids_in (grown earlier logs)
  pub no_less_c : o.next_c ≤ next_of commits_in (grown earlier logs)

-- At every moment of every run that begins with the states to which its logs recover, and with no smaller numbers.
abbrev pub AtEveryMomentFrom : {C : Type 0} → (Fixed C → (C → List State → Alone) → List (List Record) → Opening → Machine C → History → (ℕ → List LogRecord) → Type 0) → Type 0
AtEveryMomentFrom {C} P =
    (w : Fixed C) (finish : C → List State → Alone) (es : List Event) (m : Moment w es) (kept : ℕ → ℕ) (earlier : List (List Record)) (o : Opening)
    → HasFacts w finish → IsText w.text → IsRun w es → IsLeft w es m kept
    → length earlier ≡ w.text.logs → IsRecovered earlier o → BeginsFrom w.text o
    → P w finish earlier o (reached w m.events) (history w m.events) (left_in (reached w m.events) kept)

-- ---- several runs

-- Each run goes on with what its logs recover to, on as many logs.
abbrev pub GoOnLogs : {C : Type 0} → List (List Record) → Opening → List (CutRun C) → Type 0
GoOnLogs earlier o [] = ⊤
GoOnLogs earlier o (x ∷ xs) =
    (MayBe x × (length earlier ≡ x.fixed.text.logs) × BeginsWith x.fixed.text o)
    × GoOnLogs (grown earlier (logs_left x)) (opening_after x.fixed o (reached x.fixed x.moment.events) (logs_left x)) xs

-- Behind all of them the logs recover again, to what the last one leaves.
abbrev pub RecoverAgain : {C : Type 0} → List (List Record) → Opening → List (CutRun C) → Type 0
RecoverAgain earlier o [] = IsRecovered earlier o
RecoverAgain earlier o (x ∷ xs) =
    RecoversToMembers x.fixed x.finish earlier o (reached x.fixed x.moment.events) (history x.fixed x.moment.events) (logs_left x)
    × RecoverAgain (grown earlier (logs_left x)) (opening_after x.fixed o (reached x.fixed x.moment.events) (logs_left x)) xs

-- ---- what several runs answer

-- what the logs hold behind all of the runs
abbrev pub logs_behind : {C : Type 0} → List (List Record) → List (CutRun C) → List (List Record)
logs_behind earlier [] = earlier
logs_behind earlier (x ∷ xs) = logs_behind (grown earlier (logs_left x)) xs

-- and what they recover to
abbrev pub opening_behind : {C : Type 0} → Opening → List (CutRun C) → Opening
opening_behind o [] = o
opening_behind o (x ∷ xs) = opening_behind (opening_after x.fixed o (reached x.fixed x.moment.events) (logs_left x)) xs

-- the members of a run in the order of their places, each with its result
abbrev pub answers_in : {C : Type 0} → CutRun C → List PlacedResult
answers_in x = map answer_at (by_place (members_of x))

-- the results of its members are those that they have alone, one after the other from the states with which the run began
abbrev pub AnswersAlone : {C : Type 0} → CutRun C → Type 0
AnswersAlone x = map (λ (y : PlacedResult). y.2) (answers_in x) ≡ map Some (serial_run x.fixed x.finish (members_of x)).results

-- Behind all of the runs recovery gives what it gave before them, and behind that the members of each run with their results.
pub record ValuesAreResults {C : Type 0} (earlier : List (List Record)) (o : Opening) (xs : List (CutRun C)) : Type 0 where
  pub recovered : IsRecovered (logs_behind earlier xs) (opening_behind o xs)
  pub answers : flat_map answers_of (opening_behind o xs).committed ≡ flat_map answers_of o.committed ++ flat_map answers_in xs
  pub alone : AllByRecursion AnswersAlone xs
