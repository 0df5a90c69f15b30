-- Runs, crashes and compactions one behind the other: each run is cut off by a crash; behind that may come compactions, and other calls in
-- which no run began; and the next run begins on the bytes that were left. Any work may follow that is of as many logs and of the same states.
use Rattle.std.specs.Prelude.{◌≡◌, ℕ, ◌+◌, Bool, true, Some, List, [], ◌∷◌, ◌++◌, map, ⊤}
use Rattle.std.specs.List.{AllByRecursion, flat_map}
use Rattle.aml_slice.specs.aml_check.Meaning as meaning
use Rattle.aml_slice.specs.aml_tree.Tree.{CheckedMethod}
use Rattle.run_opening.specs.log_opening.Devices.{Device}
use Rattle.machine_laws.specs.Meant.{meant_run}
use Rattle.protocol.specs.Chains.{by_place, is_place_below}
use Rattle.protocol.specs.Events as machine
use Rattle.protocol.specs.Fixed.{tx_at}
use Rattle.protocol.specs.History.{Done}
use Rattle.protocol.specs.Moments.{left_in}
use Rattle.machine_laws.specs.protocol_records.Crash.{members}
use Rattle.machine_recovery.specs.recovery_laws.Grown.{PlacedResult, answer_at, answers_of}
use Rattle.run_opening.specs.Begins.{Begins}
use Rattle.run_recovery.specs.Beginnings.{BeginsAgain, CrashBefore}
use Rattle.run_recovery.specs.Crashes.{CrashOn, FindsRunsLogs, Recovers}
use Rattle.run_opening.specs.log_opening.Cuts.{AreRecent, HoldFour, TellBytes}
use Rattle.run_recovery.specs.Next.{GoesOnFrom, fold_left}
use Rattle.run_recovery.specs.OneRun.{TheRun, MomentOf, history_at, reached_at, the_run}
use Rattle.run_recovery.specs.Runs.{HasRunWork, machine_of, text_of}
use Rattle.snap_base.specs.Outcomes.{Serial}
use Rattle.snap_base.specs.declared.transactions.State.{State}
use Rattle.snap_base.specs.declared.transactions.Tx.{Tx}
use Rattle.run_recovery.specs.Schedules.{Schedule}
use Rattle.run_recovery.specs.Between.{AreBetween, Call, HasCompaction, IsFoldBehind, KeepFour, LeadTo, compacted, left_last, still}
use Rattle.machine_recovery.specs.compact_laws.log_compact.declared.folds.Folded.{Folded}
use Rattle.machine_recovery.specs.compact_laws.log_compact.Finding.{IsLeftByRuns, IsUsed}
use Rattle.machine_recovery.specs.compact_laws.log_compact.Sets.{count_acts, count_batches, logs_from}
use Rattle.snap_recover.specs.declared.openings.Kept.{Kept}
use Rattle.snap_recover.specs.declared.openings.Opening.{Opening}
use Rattle.snap_work.specs.Kept.{KeepsLimits}
use Rattle.snap_work.specs.Works.{Work}
use Rattle.record_log.specs.txn_records.declared.records.Record.{Record}

-- ---- a run that is cut off

-- a crash while the run begins, or at a moment of it
pub data Crash (r : TheRun) (images : ℕ → List ℕ) : Type 0 where
  Early : (crash : CrashBefore r images) → Crash r images
  Within : (m : MomentOf r) (crash : CrashOn r m images) → Crash r images

-- A run of a work that keeps its limits; the crash, and the bytes that it left; and the calls behind it, with the bytes that each of them
-- left.
pub record CutOff : Type 0 where
  pub work : Work
  pub schedule : Schedule
  pub opening : Opening
  pub events : List machine.Event
  pub failed : ℕ → Bool
  pub before : List Device
  pub after : List Device
  pub limits : KeepsLimits work
  pub run : HasRunWork work schedule opening events failed before after
  pub images : ℕ → List ℕ
  pub crash : Crash (the_run run) images
  pub calls : List Call
  pub between : AreBetween work.logs work.states images calls

-- the bytes that are left behind it and the calls
abbrev pub bytes_left : CutOff → ℕ → List ℕ
bytes_left x = left_last x.images x.calls

-- y is of as many logs and of the same states as x, and its devices told the bytes that were left behind x
pub record IsBehindCutOff (x y : CutOff) : Type 0 where
  pub logs : y.work.logs ≡ x.work.logs
  pub states : y.work.states ≡ x.work.states
  pub told : TellBytes y.before (bytes_left x)

-- P holds of the first of them, where there is one
abbrev pub OfNext : (CutOff → Type 0) → List CutOff → Type 0
OfNext P [] = ⊤
OfNext P (y ∷ ys) = P y

-- each is behind the one before it
abbrev pub EachIsBehind : List CutOff → Type 0
EachIsBehind [] = ⊤
EachIsBehind (x ∷ xs) = OfNext (IsBehindCutOff x) xs × EachIsBehind xs

-- ---- what it left

-- What the crash left on the four devices, and to what these lead. Where it came while the run began, no record of the logs in use is
-- lost, and a run begins as this one did. At a moment of the run its members are left, and a run goes on from them.
abbrev pub LeftBy : (x : CutOff) → Crash (the_run x.run) x.images → (ℕ → List Record) → Folded → Type 0
LeftBy x (Early crash) now f = (b : BeginsAgain (the_run x.run) x.images) × (now ≡ b.now) × (f ≡ x.run.devices.fold)
LeftBy x (Within m crash) now f = (left : Recovers x.work.program (the_run x.run) m x.images) × GoesOnFrom left × (now ≡ left.now) × (f ≡ fold_left left)

-- its members: those that are left at the moment, and none where the crash came while the run began
abbrev pub members_left : {p : List CheckedMethod} {r : TheRun} {m : MomentOf r} {images : ℕ → List ℕ} → Recovers p r m images → List Done
members_left {p} {r} {m} {images} left = members r.work.logs (left_in (reached_at r m) left.kept) (history_at r m)

abbrev pub members_by : (x : CutOff) (crash : Crash (the_run x.run) x.images) (now : ℕ → List Record) (f : Folded) → LeftBy x crash now f → List Done
members_by x (Early crash) now f by = []
members_by x (Within m crash) now f by = members_left by.0

-- What recovery gives of the run beside what was committed before it. Where the crash came while the run began it is nothing. At a
-- moment of the run it is its members, in the order of their places; and the values that it gives are the results that these have
-- one after the other in this order, from the states with which the run began, as the language means each.
abbrev pub AddsMembers : (x : CutOff) (crash : Crash (the_run x.run) x.images) (now : ℕ → List Record) (f : Folded) → LeftBy x crash now f → List Kept → Type 0
AddsMembers x (Early crash) now f by more = more ≡ []
AddsMembers x (Within m crash) now f by more =
    (flat_map answers_of more ≡ map answer_at (by_place (members_left by.0)))
    × (map (λ (y : PlacedResult). y.2) (flat_map answers_of more) ≡ map Some (meant_run x.work.program (machine_of x.work x.opening) (members_left by.0)).results)

-- These stand behind what was committed before the run, and are counted.
pub record Adds (x : CutOff) (crash : Crash (the_run x.run) x.images) (now : ℕ → List Record) (f : Folded) (by : LeftBy x crash now f) : Type 0 where
  pub more : List Kept
  pub committed : f.opening.committed ≡ x.opening.committed ++ more
  pub batches : f.batches ≡ x.run.devices.fold.batches + count_batches more
  pub acts : f.acts ≡ x.run.devices.fold.acts + count_acts more
  pub members : AddsMembers x crash now f by more

pub record Left (x : CutOff) (crash : Crash (the_run x.run) x.images) : Type 0 where
  -- the records with which the crash left the four devices, and to what the logs in use lead there
  pub crashed : ℕ → List Record
  pub crashed_fold : Folded
  pub by : LeftBy x crash crashed crashed_fold
  pub adds : Adds x crash crashed crashed_fold by
  -- the records with which the calls behind it left them, and the logs that are in use then, as runs leave them, where the run found them so
  pub now : ℕ → List Record
  pub holds : HoldFour (bytes_left x) now
  pub head : ℕ
  pub generation : ℕ
  -- none of these is of format 1 with an item
  pub recent : AreRecent (bytes_left x) head x.work.logs
  pub used : IsUsed now x.work.logs head x.work.logs generation
  pub set : FindsRunsLogs (the_run x.run) → IsLeftByRuns now head x.work.logs
  pub unbegun : ¬ HasCompaction x.calls → (head ≡ x.run.devices.head) × (generation ≡ x.run.devices.generation) × KeepFour x.work.logs x.work.states crashed now
  -- and to what these lead, with which opening alone a run of the same states begins on them
  pub fold : Folded
  pub which : IsFoldBehind x.calls crashed_fold fold
  pub leads : LeadTo (logs_from now head x.work.logs) x.work.states fold
  pub alone : (q : Opening) → Begins (logs_from now head x.work.logs) x.work.states q → q ≡ fold.opening

-- the records of the logs in use
abbrev pub in_use : {x : CutOff} {crash : Crash (the_run x.run) x.images} → Left x crash → List (List Record)
in_use {x} {crash} left = logs_from left.now left.head x.work.logs

-- the members of its run that it left
abbrev pub members_in : (x : CutOff) → Left x x.crash → List Done
members_in x left = members_by x x.crash left.crashed left.crashed_fold left.by

-- The run y began on these records of the same logs in use, with what they lead to; and where they are as runs leave them, it found them so.
pub record BeganOn {x : CutOff} {crash : Crash (the_run x.run) x.images} (left : Left x crash) (y : CutOff) : Type 0 where
  pub head : y.run.devices.head ≡ left.head
  pub generation : y.run.devices.generation ≡ left.generation
  pub records : y.run.devices.records ≡ in_use left
  pub fold : y.run.devices.fold ≡ left.fold
  pub opening : y.opening ≡ left.fold.opening
  pub found : IsLeftByRuns left.now left.head x.work.logs → FindsRunsLogs (the_run y.run)

-- Each of them is recovered, and the next one began with just that.
abbrev pub GoOn : List CutOff → Type 0
GoOn [] = ⊤
GoOn (x ∷ xs) = ((left : Left x x.crash) × OfNext (BeganOn left) xs) × GoOn xs

-- its run found logs as runs leave them
abbrev pub FoundByRuns : CutOff → Type 0
FoundByRuns x = FindsRunsLogs (the_run x.run)

-- ---- the values that recovery gives behind all of them

-- what the logs lead to there, where they led to this before the first of them
abbrev pub fold_behind : Folded → (xs : List CutOff) → GoOn xs → Folded
fold_behind f [] on = f
fold_behind f (x ∷ xs) on = fold_behind on.0.0.fold xs on.1

-- what each of them adds, one behind the other
abbrev pub added_by : (xs : List CutOff) → GoOn xs → List Kept
added_by [] on = []
added_by (x ∷ xs) on = on.0.0.adds.more ++ added_by xs on.1

abbrev pub EachAddsMembers : (xs : List CutOff) → GoOn xs → Type 0
EachAddsMembers [] on = ⊤
EachAddsMembers (x ∷ xs) on = AddsMembers x x.crash on.0.0.crashed on.0.0.crashed_fold on.0.0.by on.0.0.adds.more × EachAddsMembers xs on.1

-- ---- their places, over all of them

-- the places of these are below those of all members of these runs
abbrev pub AreBelow : List Done → (xs : List CutOff) → GoOn xs → Type 0
AreBelow ds [] on = ⊤
AreBelow ds (x ∷ xs) on = AllByRecursion (λ d. AllByRecursion (λ e. is_place_below d.place e.place ≡ true) (members_in x on.0.0)) ds × AreBelow ds xs on.1

-- the places of each run's members are below those of all later runs
abbrev pub PlacesGoOn : (xs : List CutOff) → GoOn xs → Type 0
PlacesGoOn [] on = ⊤
PlacesGoOn (x ∷ xs) on = AreBelow (members_in x on.0.0) xs on.1 × PlacesGoOn xs on.1

-- what is kept of these behind calls: all, or, where a compaction took effect, nothing
abbrev pub kept_by : {calls : List Call} {f g : Folded} → IsFoldBehind calls f g → List Kept → List Kept
kept_by (still same) ks = ks
kept_by (compacted among same later since) ks = []

-- What is kept behind all of them, where this was kept before the first: it and what each of them adds, since the last compaction that took
-- effect.
abbrev pub kept_behind : List Kept → (xs : List CutOff) → GoOn xs → List Kept
kept_behind ks [] on = ks
kept_behind ks (x ∷ xs) on = kept_behind (kept_by on.0.0.which (ks ++ on.0.0.adds.more)) xs on.1

-- no compaction is among the calls
abbrev pub HaveNoCompaction : List CutOff → Type 0
HaveNoCompaction xs = AllByRecursion (λ (x : CutOff). ¬ HasCompaction x.calls) xs

-- ---- one serial run over all of them

-- a transaction, and the program of the run in which it was asked for
pub record Asked : Type 0 where
  pub program : List CheckedMethod
  pub tx : Tx

-- one after the other, each as the language means it alone
abbrev pub serial_over : List State → List Asked → Serial
serial_over world [] = record { results = []; world = world }
serial_over world (a ∷ asked) =
    let first = meaning.alone a.program world a.tx in
    let rest = serial_over first.world asked in
    record { results = first.result ∷ rest.results; world = rest.world }

-- the members that a run left, in the order of their places
abbrev pub asked_in : (x : CutOff) → Left x x.crash → List Asked
asked_in x left = map (λ (d : Done). record { program = x.work.program; tx = tx_at (text_of x.work x.opening) d.tx }) (by_place (members_in x left))

abbrev pub all_asked : (xs : List CutOff) → GoOn xs → List Asked
all_asked [] on = []
all_asked (x ∷ xs) on = asked_in x on.0.0 ++ all_asked xs on.1

-- The values that recovery gave of them are the results that all of them have one after the other, run behind run, from the states with which
-- the first one began; and behind all of them the logs lead to the states that this leaves.
pub record IsOneSerialRun (f : Folded) (xs : List CutOff) (on : GoOn xs) : Type 0 where
  pub results : map (λ (y : PlacedResult). y.2) (flat_map answers_of (added_by xs on)) ≡ map Some (serial_over f.opening.states (all_asked xs on)).results
  pub states : (fold_behind f xs on).opening.states ≡ (serial_over f.opening.states (all_asked xs on)).world

-- Recovery gives what was committed before the first of them, and behind that what each of them adds, since the last compaction that took
-- effect; where no compaction is among them it gives all. Each adds members, with the values that they give alone; and they are
-- counted all, whether or not a compaction stands in their place. All are one serial run. Their places rise from run to run, over compactions too.
pub record ValuesStand (f : Folded) (xs : List CutOff) (on : GoOn xs) : Type 0 where
  pub committed : (fold_behind f xs on).opening.committed ≡ kept_behind f.opening.committed xs on
  pub all : HaveNoCompaction xs → kept_behind f.opening.committed xs on ≡ f.opening.committed ++ added_by xs on
  pub batches : (fold_behind f xs on).batches ≡ f.batches + count_batches (added_by xs on)
  pub acts : (fold_behind f xs on).acts ≡ f.acts + count_acts (added_by xs on)
  pub members : EachAddsMembers xs on
  pub one : IsOneSerialRun f xs on
  pub rise : PlacesGoOn xs on
