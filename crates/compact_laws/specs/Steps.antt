-- Runs, crashes and compactions one after the other on four devices: each begins with what the set folds to that the one before
-- it left.
use Rattle.std.specs.Prelude.{◌≡◌, ℕ, ◌+◌, ◌-◌, ◌≤◌, nat_le, nat_lt, ◌&&◌, if◌then◌else◌, List, [], ◌∷◌, ◌++◌, ⊤}
use Rattle.protocol.specs.Fixed.{Text, Fixed}
use Rattle.protocol.specs.History.{history}
use Rattle.protocol.specs.Parts.{Machine}
use Rattle.protocol.specs.Records.{LogRecord}
use Rattle.protocol.specs.Runs.{reached}
use Rattle.protocol_records.specs.Crash.{CrashHolds}
use Rattle.protocol_records.specs.NextNumbers.{next_tid_of, next_bid_of, next_c_of}
use Rattle.protocol_records.specs.SeveralRuns.{CutRun, MayBe, logs_left, recovered_from}
use Rattle.log_set.specs.Told.{bid_of, tid_of, all_told}
use Rattle.recovery_laws.specs.Grown.{all_in}
use Rattle.recovery_laws.specs.Joined.{RecoversFrom}
use Rattle.txn_records.specs.declared.records.Record.{Record}
use Rattle.snap_recover.specs.declared.openings.Opening.{Opening}
use Rattle.log_compact.specs.declared.folds.Folded.{Folded}
use Rattle.log_compact.specs.Sets.{IsSet, IsFolded, IsSameFold, logs_from, plain_lists, count_batches, count_acts}
use Rattle.log_compact.specs.Compacting.{other_side, IsBefore, IsMoment, MayCompact}

-- ---- a run on a set

-- each log in use has behind its records the run's records
abbrev pub with_run : (ℕ → List Record) → ℕ → ℕ → (ℕ → List LogRecord) → ℕ → List Record
with_run devices head many logs d = if nat_le head d && nat_lt d (head + many) then devices d ++ all_told (logs (d - head)) else devices d

-- the run begins with what the set folds to
pub record BeginsOn (w : Text) (many : ℕ) (f : Folded) : Type 0 where
  pub logs : w.logs ≡ many
  pub states : w.opening.states ≡ f.opening.states
  pub next_tid : w.opening.next_tid ≡ f.opening.next_tid.0
  pub next_bid : w.opening.next_bid ≡ f.opening.next_bid.0
  pub next_c : w.opening.next_c ≡ f.opening.next_c

-- What the set folds to then: the states are those that the members leave, these stand behind what was committed before, the next
-- numbers are the run's, and the checkpoint is the same.
abbrev pub fold_after : {C : Type 0} → Fixed C → Folded → Machine C → (ℕ → List LogRecord) → Folded
fold_after w f s logs = record {
  opening = record {
    states = recovered_from w.text.logs logs 0 w.text.opening.states;
    committed = f.opening.committed ++ all_in w.text.logs logs s;
    next_tid = tid_of (next_tid_of w logs);
    next_bid = bid_of (next_bid_of w logs);
    next_c = next_c_of w logs;
  };
  batches = f.batches + count_batches (all_in w.text.logs logs s);
  acts = f.acts + count_acts (all_in w.text.logs logs s);
  first = f.first;
  generation = f.generation;
}

abbrev pub left_by : {C : Type 0} → (ℕ → List Record) → ℕ → ℕ → CutRun C → ℕ → List Record
left_by devices head many x = with_run devices head many (logs_left x)

abbrev pub fold_left : {C : Type 0} → Folded → CutRun C → Folded
fold_left f x = fold_after x.fixed f (reached x.fixed x.moment.events) (logs_left x)

-- ---- steps

-- what happens on the devices: a run that a crash cuts off, or that ends; the clearing of the other side, or a part of it; a compaction,
-- or a part of it, behind which this is the set, and what it folds to
pub data Step (C : Type 0) : Type 0 where
  Run : CutRun C → Step C
  Clear : (now : ℕ → List Record) → Step C
  Compact : (now : ℕ → List Record) (head : ℕ) (f : Folded) → Step C

abbrev pub GoOn : {C : Type 0} → (ℕ → List Record) → ℕ → ℕ → Folded → List (Step C) → Type 0
GoOn devices head many f [] = ⊤
GoOn devices head many f (Run x ∷ xs) = (MayBe x × BeginsOn x.fixed.text many f) × GoOn (left_by devices head many x) head many (fold_left f x) xs
GoOn devices head many f (Clear now ∷ xs) = ((many ≤ 2) × IsBefore devices now (other_side head many) many) × GoOn now head many f xs
GoOn devices head many f (Compact now next g ∷ xs) =
    (MayCompact devices head many f × IsMoment devices now head many f × IsSet now next many g.generation × IsFolded (logs_from now next many) g)
    × GoOn now next many g xs

pub record SetHolds (devices : ℕ → List Record) (head many : ℕ) (f : Folded) : Type 0 where
  pub some : 1 ≤ many
  pub set : IsSet devices head many f.generation
  pub folded : IsFolded (logs_from devices head many) f

-- Behind each step there is a set that folds. Of a run the members are closed and serial from the states of the fold before it, hold all
-- who were told, and leave the states of the fold behind it, whose next numbers are above theirs. A clearing and a
-- compaction change nothing of what is folded.
abbrev pub StepsStand : {C : Type 0} → (ℕ → List Record) → ℕ → ℕ → Folded → List (Step C) → Type 0
StepsStand devices head many f [] = SetHolds devices head many f
StepsStand devices head many f (Run x ∷ xs) =
    (SetHolds devices head many f
    × CrashHolds x.fixed x.finish x.events (reached x.fixed x.moment.events) (history x.fixed x.moment.events) (logs_left x)
    × ((o : Opening) × RecoversFrom x.fixed x.finish (plain_lists (logs_from devices head many)) o (reached x.fixed x.moment.events) (history x.fixed x.moment.events) (logs_left x)))
    × StepsStand (left_by devices head many x) head many (fold_left f x) xs
StepsStand devices head many f (Clear now ∷ xs) = SetHolds devices head many f × StepsStand now head many f xs
StepsStand devices head many f (Compact now next g ∷ xs) = (SetHolds devices head many f × IsSameFold f g) × StepsStand now next many g xs
