-- A program's runs on logs that hold the records of earlier runs, and the shapes of laws over all of them. No premise on
-- code is left: the code is the program's own.
use Rattle.std.specs.Prelude.{◌≡◌, ℕ, ◌<◌, Some, List, [], ◌∷◌, length, map, Contains, ⊤}
use Rattle.std.specs.List.{flat_map}
use Rattle.snap_base.specs.declared.transactions.State.{State}
use Rattle.aml_tree.specs.Tree.{CheckedMethod}
use Rattle.aml_slice.specs.Controls.{Rest}
use Rattle.protocol.specs.Fixed.{Text, Fixed}
use Rattle.protocol.specs.Facts.{Alone, state_in}
use Rattle.protocol.specs.Records.{LogRecord}
use Rattle.protocol.specs.Parts.{Machine}
use Rattle.protocol.specs.Events.{Event}
use Rattle.protocol.specs.Runs.{IsRun, reached}
use Rattle.protocol.specs.Moments.{Moment, IsLeft, left_in}
use Rattle.protocol.specs.History.{History, history}
use Rattle.protocol_records.specs.Crash.{members}
use Rattle.protocol_records.specs.SeveralRuns.{CutRun, logs_left}
use Rattle.txn_records.specs.declared.records.Record.{Record}
use Rattle.snap_recover.specs.declared.openings.Opening.{Opening}
use Rattle.compact_laws.specs.log_compact.declared.folds.Folded.{Folded}
use Rattle.compact_laws.specs.log_compact.Sets.{IsFolded}
use Rattle.compact_laws.specs.Steps.{fold_after}
use Rattle.recovery_laws.specs.Grown.{grown, PlacedResult, answers_of, all_in, BeginsWith, opening_after}
use Rattle.machine_laws.specs.Meant.{IsAsMeant, meant_run}
use Rattle.machine_laws.specs.Programs.{IsTextOf, with_code, finish_of}

-- At every moment of every run of every text of the program that begins with what its logs fold to, whatever they are left with.
abbrev pub AtEveryMomentOnLogsOf : List CheckedMethod → (Fixed Rest → (Rest → List State → Alone) → List (List Record) → Folded → Machine Rest → History → (ℕ → List LogRecord) → Type 0) → Type 0
AtEveryMomentOnLogsOf p P =
    (w : Text) (es : List Event) (m : Moment (with_code p w) es) (kept : ℕ → ℕ) (earlier : List (List Record)) (f : Folded)
    → IsTextOf p w → IsRun (with_code p w) es → IsLeft (with_code p w) es m kept
    → length earlier ≡ w.logs → IsFolded earlier f → BeginsWith w f.opening
    → P (with_code p w) (finish_of p w) earlier f (reached (with_code p w) m.events) (history (with_code p w) m.events) (left_in (reached (with_code p w) m.events) kept)

-- What the logs fold to is what the language means: the results of the members are those that they have one after the
-- other in the order of their places, the values that recovery gives are these results, and the states are those that this leaves.
pub record RecoversAsMeant (p : List CheckedMethod) (w : Fixed Rest) (finish : Rest → List State → Alone) (earlier : List (List Record)) (f : Folded) (s : Machine Rest) (h : History) (logs : ℕ → List LogRecord) : Type 0 where
  pub results : IsAsMeant p w (members w.text.logs logs h)
  pub values : map (λ (x : PlacedResult). x.2) (flat_map answers_of (all_in w.text.logs logs s)) ≡ map Some (meant_run p w (members w.text.logs logs h)).results
  pub states : (a : ℕ) → a < length w.text.opening.states → state_in (fold_after w f s logs).opening.states a ≡ state_in (meant_run p w (members w.text.logs logs h)).world a
  pub as_many : length (meant_run p w (members w.text.logs logs h)).world ≡ length w.text.opening.states

-- ---- several runs

-- a run of a text of a program, the moment of the crash, and how many records each log is left with
pub record CutRunOf : Type 0 where
  pub program : List CheckedMethod
  pub text : Text
  pub events : List Event
  pub moment : Moment (with_code program text) events
  pub kept : ℕ → ℕ

-- with the program's methods as its code
abbrev pub as_cut_run : CutRunOf → CutRun Rest
as_cut_run x = record {
  fixed = with_code x.program x.text;
  finish = finish_of x.program x.text;
  events = x.events;
  moment = x.moment;
  kept = x.kept;
}

-- it may be: of one of these programs, and cut off there
pub record MayBeOf (ps : List (List CheckedMethod)) (x : CutRunOf) : Type 0 where
  pub program : Contains ps x.program
  pub text : IsTextOf x.program x.text
  pub run : IsRun (with_code x.program x.text) x.events
  pub left : IsLeft (with_code x.program x.text) x.events x.moment x.kept

-- Each run goes on with what its logs recover to, on as many logs.
abbrev pub GoOnLogsOf : List (List CheckedMethod) → List (List Record) → Opening → List CutRunOf → Type 0
GoOnLogsOf ps earlier o [] = ⊤
GoOnLogsOf ps earlier o (x ∷ xs) =
    (MayBeOf ps x × (length earlier ≡ x.text.logs) × BeginsWith x.text o)
    × GoOnLogsOf ps (grown earlier (logs_left (as_cut_run x))) (opening_after (with_code x.program x.text) o (reached (with_code x.program x.text) x.moment.events) (logs_left (as_cut_run x))) xs
