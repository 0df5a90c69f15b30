-- What is used of a state holds after every run.
use Rattle.std.specs.Prelude.{ℕ, zero, suc, ◌%◌, ◌≤◌, List, [], ◌∷◌, length, replicate, slice_set, slice_index_or}
use Rattle.std.specs.List.{AllByRecursion}
use Rattle.std.proofs.Common.{arith, length-append}
use Rattle.protocol.specs.Fixed.{Fixed, IsText}
use Rattle.protocol.specs.Records.{LogRecord}
use Rattle.protocol.specs.Parts.{Log, Machine}
use Rattle.protocol.specs.Events.{Event, Form, Complete, Sync, Commit, Prepare, Decide}
use Rattle.protocol.specs.Effects.{after, log_at, no_log, added, synced}
use Rattle.protocol.specs.Runs.{opening, EachAllowed, IsRun, reached, state_after}
use Rattle.protocol.specs.Numbers.{NumbersDrawnOnce}
use Rattle.protocol.specs.Laws.{AfterEveryRun}
use Rattle.protocol_ready.specs.Touched.{IsSound}

abbrev pub IsWithin : Log → Type 0
IsWithin g = g.synced ≤ length g.records

set_all : (gs : List Log) (i : ℕ) (g : Log) → AllByRecursion IsWithin gs → IsWithin g → AllByRecursion IsWithin (slice_set gs i g)
set_all [] i g h k = tt
set_all (x ∷ gs) zero g h k = (k, h.1)
set_all (x ∷ gs) (suc i) g h k = (h.0, set_all gs i g h.1 k)

at_all : (gs : List Log) (i : ℕ) → AllByRecursion IsWithin gs → IsWithin (slice_index_or gs i no_log)
at_all [] i h = omega arith
at_all (g ∷ gs) zero h = h.0
at_all (g ∷ gs) (suc i) h = at_all gs i h.1

adds_all : {C : Type 0} (s : Machine C) (l : ℕ) (rs : List LogRecord) → AllByRecursion IsWithin s.logs → AllByRecursion IsWithin (slice_set s.logs l (added rs (log_at s l)))
adds_all s l rs h = set_all s.logs l _ h (omega (arith, at_all s.logs l h, length-append (log_at s l).records rs))

within_kept : {C : Type 0} (w : Fixed C) (e : Event) (s : Machine C) → AllByRecursion IsWithin s.logs → AllByRecursion IsWithin (after w e s).logs
unfolding after
within_kept w (Form k) s h = adds_all s (k % w.text.logs) _ h
within_kept w (Complete k a) s h = adds_all s (a % w.text.logs) _ h
within_kept w (Sync l) s h = set_all s.logs l (synced (log_at s l)) h (omega arith)
within_kept w (Commit k) s h = adds_all s (k % w.text.logs) _ h
within_kept w (Prepare t a) s h = adds_all s (a % w.text.logs) _ h
within_kept w (Decide t) s h = adds_all s (t % w.text.logs) _ h
within_kept w _ s h = h

along : {C : Type 0} (w : Fixed C) (es : List Event) (s : Machine C) → EachAllowed w es s → AllByRecursion IsWithin s.logs → AllByRecursion IsWithin (state_after w es s).logs
along w [] s run h = h
along w (e ∷ es) s run h = along w es (after w e s) run.1 (within_kept w e s h)

new_logs : (n : ℕ) → AllByRecursion IsWithin (replicate n no_log)
new_logs zero = tt
new_logs (suc n) = (omega arith, new_logs n)

pub sound : {C : Type 0} (w : Fixed C) (es : List Event) → AfterEveryRun (NumbersDrawnOnce {C = C}) → IsText w.text → IsRun w es → IsSound w (reached w es)
sound w es drawn text run = record {
  synced = along w es (opening w) run (new_logs w.text.logs);
  bids = (drawn w es text run).bids;
}
