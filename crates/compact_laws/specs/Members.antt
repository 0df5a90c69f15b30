-- Whatever a crash leaves of the logs of a run that began with what its logs fold to folds again, to what the laws of the machine
-- speak of.
use Rattle.std.specs.Prelude.{◌≡◌, ◌≢◌, ℕ, ◌<◌, Some, List, length, map}
use Rattle.std.specs.List.{AllByRecursion, flat_map}
use Rattle.snap_base.specs.declared.transactions.State.{State}
use Rattle.protocol.specs.Fixed.{Fixed, IsText}
use Rattle.protocol.specs.Facts.{Alone, state_in}
use Rattle.protocol.specs.Rests.{HasFacts}
use Rattle.protocol.specs.Records.{LogRecord}
use Rattle.protocol.specs.Parts.{Machine}
use Rattle.protocol.specs.Events.{Event}
use Rattle.protocol.specs.Runs.{IsRun, reached}
use Rattle.protocol.specs.Moments.{Moment, IsLeft, left_in}
use Rattle.protocol.specs.History.{History, history}
use Rattle.protocol.specs.Chains.{by_place, serial_run}
use Rattle.protocol_records.specs.Crash.{members}
use Rattle.protocol_records.specs.NextNumbers.{IsNumberedWithin}
use Rattle.txn_records.specs.declared.records.Record.{Record}
use Rattle.recovery_laws.specs.Grown.{grown, PlacedResult, answers_of, answer_at, all_in, BeginsWith}
use Rattle.log_compact.specs.declared.folds.Folded.{Folded}
use Rattle.log_compact.specs.declared.refusals.FoldNo.{FoldNo}
use Rattle.log_compact.specs.declared.refusals.FoldNo.TheVariants.{Memory}
use Rattle.log_compact.specs.Refusals.{IsNotFolded}
use Rattle.log_compact.specs.Sets.{IsFolded}
use Rattle.compact_laws.specs.Steps.{fold_after}

-- Behind the records that folded to this as the run began, what the logs hold of the run folds to the members.
pub record FoldsToMembers {C : Type 0} (w : Fixed C) (finish : C → List State → Alone) (earlier : List (List Record)) (f : Folded) (s : Machine C) (h : History) (logs : ℕ → List LogRecord) : Type 0 where
  pub folded : IsFolded (grown earlier logs) (fold_after w f s logs)
  -- want of memory aside, nothing is refused
  pub taken : (no : FoldNo) → no ≢ Memory → ¬ IsNotFolded (grown earlier logs) no
  -- what is committed of this run is the members, in the order of their places, each with its result
  pub ordered : flat_map answers_of (all_in w.text.logs logs s) ≡ map answer_at (by_place (members w.text.logs logs h))
  -- and these are the results that they have alone, one after the other in the order of places from the states with which the run began
  pub alone : map (λ (x : PlacedResult). x.2) (flat_map answers_of (all_in w.text.logs logs s)) ≡ map Some (serial_run w finish (members w.text.logs logs h)).results
  -- and the next numbers are above theirs
  pub above : AllByRecursion (IsNumberedWithin w (fold_after w f s logs).opening.next_tid.0 (fold_after w f s logs).opening.next_bid.0 (fold_after w f s logs).opening.next_c) (members w.text.logs logs h)
  -- the states are those that the members leave, one after the other in the order of places from the states with which the run began
  pub states : (a : ℕ) → a < length w.text.opening.states → state_in (fold_after w f s logs).opening.states a ≡ state_in (serial_run w finish (members w.text.logs logs h)).world a

-- At every moment of every run that begins with what its logs fold to.
abbrev pub AtEveryMomentOnFolds : {C : Type 0} → (Fixed C → (C → List State → Alone) → List (List Record) → Folded → Machine C → History → (ℕ → List LogRecord) → Type 0) → Type 0
AtEveryMomentOnFolds {C} P =
    (w : Fixed C) (finish : C → List State → Alone) (es : List Event) (m : Moment w es) (kept : ℕ → ℕ) (earlier : List (List Record)) (f : Folded)
    → HasFacts w finish → IsText w.text → IsRun w es → IsLeft w es m kept
    → length earlier ≡ w.text.logs → IsFolded earlier f → BeginsWith w.text f.opening
    → P w finish earlier f (reached w m.events) (history w m.events) (left_in (reached w m.events) kept)
