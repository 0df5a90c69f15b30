-- What is read of runs, and what is read of them later, and all that they left.
use Rattle.std.specs.Prelude.{◌≡◌, ℕ, ◌≤◌, true, false, Option, Some, None, List, [], ◌∷◌, ◌++◌, length}
use Rattle.std.specs.List.{AllByRecursion}
use Rattle.std.proofs.Common.{sym, inl, inr}
use Rattle.std.proofs.lemmas.Bool.{true≢false}
use Rattle.snap_base.specs.declared.transactions.State.{State}
use Rattle.protocol.specs.Fixed.{Opening}
use Rattle.protocol.specs.Facts.{state_in}
use Rattle.protocol.specs.Records.{LogRecord}
use Rattle.protocol.specs.Parts.{OfBatch, OfAct}
use Rattle.protocol_records.specs.Crash.{is_in, BatchIsWhole, ActIsWhole}
use Rattle.protocol_records.specs.SeveralRuns.{CutRun, GoOn}
use Rattle.followed_runs.specs.Following as follow
use Rattle.followed_runs.specs.FollowingRuns.{Where, IsNoEarlier, IsStill, RunsReading, runs_read, IsLaterRead, RunsRound, runs_before, IsLaterThanRead, InEveryRunsRound, RunsRoundStands}
use Rattle.followed_logs.proofs.Behind.{all_at, all_left}

-- ---- all that the runs left is read at no earlier moment

no_earlier : {C : Type 0} (xs : List (CutRun C)) (l i : ℕ) (p : Where xs l) → IsNoEarlier xs l i p (all_at xs i)
unfolding all_at
no_earlier [] l i p = tt
no_earlier (x ∷ xs) l i None = tt
no_earlier (x ∷ xs) l i (Some (inl s)) = tt
no_earlier (x ∷ xs) l i (Some (inr p)) = no_earlier xs l i p

all_still : {C : Type 0} (xs : List (CutRun C)) (l : ℕ) (p : Where xs l) → IsStill xs l p (all_at xs l)
unfolding all_at
all_still [] l p = tt
all_still (x ∷ xs) l None = tt
all_still (x ∷ xs) l (Some (inl s)) = tt
all_still (x ∷ xs) l (Some (inr p)) = all_still xs l p

later_all : {C : Type 0} (xs : List (CutRun C)) (r : RunsReading xs) → IsLaterRead xs r (all_left xs)
unfolding all_left
later_all xs r = record { moments = λ l i. no_earlier xs l i (r l); still = λ l. all_still xs l (r l) }

-- ---- rounds that take nobody

none_taken : (many : ℕ) (first : ℕ → State) (before now : ℕ → List LogRecord) → follow.MayTake many first (λ y. false) before now (λ y. false)
none_taken many first before now = record { stay = λ y e. e; seen = λ y e n. absurd (true≢false (sym e)); rest_on = λ y z e n a i. absurd (true≢false (sym e)) }

at_reading : {C : Type 0} {xs : List (CutRun C)} → RunsReading xs → RunsRound xs
at_reading r = record { reading = r; members = λ y. false }

-- what is read now goes on from what was read before, nothing is missing of what was, and all that the runs left goes on from it
pub record ReadLater {C : Type 0} (many : ℕ) (xs : List (CutRun C)) (before : ℕ → List LogRecord) (now : RunsReading xs) : Type 0 where
  pub no_less : (l : ℕ) → (more : List LogRecord) × (runs_read xs now l ≡ before l ++ more)
  pub whole_batches : (k : ℕ) → is_in many before (OfBatch k) ≡ true → BatchIsWhole many (runs_read xs now) k
  pub whole_acts : (t : ℕ) → is_in many before (OfAct t) ≡ true → ActIsWhole many (runs_read xs now) t
  pub all : (l : ℕ) → (more : List LogRecord) × (runs_read xs (all_left xs) l ≡ runs_read xs now l ++ more)

reads_of : {C : Type 0} (many : ℕ) (o : Opening) (xs : List (CutRun C)) (before : ℕ → List LogRecord) (now : RunsReading xs)
    → RunsRoundStands many o xs (λ y. false) before now (λ y. false) → RunsRoundStands many o xs (λ y. false) (runs_read xs now) (all_left xs) (λ y. false) → ReadLater many xs before now
reads_of many o xs before now s a = record { no_less = s.no_less; whole_batches = s.whole_batches; whole_acts = s.whole_acts; all = a.no_less }

pub reads : {C : Type 0} → InEveryRunsRound C → (many : ℕ) (o : Opening) (xs : List (CutRun C)) (before : Option (RunsReading xs)) (now : RunsReading xs)
    → 1 ≤ length o.states → AllByRecursion (λ x. x.fixed.text.logs ≡ many) xs → GoOn o xs → IsLaterThanRead xs before now → ReadLater many xs (runs_before xs before) now
unfolding at_reading
reads law many o xs None now some same go l =
    let s = law many o xs (at_reading now ∷ at_reading (all_left xs) ∷ []) some same go
    ((tt, none_taken many (state_in o.states) (λ i. []) (runs_read xs now)), ((later_all xs now, none_taken many (state_in o.states) (runs_read xs now) (runs_read xs (all_left xs))), tt)) in
    reads_of many o xs (λ i. []) now s.0 s.1.0
reads law many o xs (Some r) now some same go l =
    let s = law many o xs (at_reading r ∷ at_reading now ∷ at_reading (all_left xs) ∷ []) some same go
    ((tt, none_taken many (state_in o.states) (λ i. []) (runs_read xs r)), ((l, none_taken many (state_in o.states) (runs_read xs r) (runs_read xs now)), ((later_all xs now, none_taken many (state_in o.states) (runs_read xs now) (runs_read xs (all_left xs))), tt))) in
    reads_of many o xs (runs_read xs r) now s.1.0 s.1.1.0
