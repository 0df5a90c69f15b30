-- The states that logs tell that a run grew.
use Rattle.std.specs.Prelude.{ℕ, ◌+◌, ◌<◌, ◌≤◌, ◌%◌, ◌==◌, List, [], ◌∷◌}
use Rattle.std.specs.List.{AllByRecursion, AllZip, enumerate_from}
use Rattle.std.proofs.Common.{arith, sym, subst, inl, inr, ◌∙◌}
use Rattle.std.proofs.lemmas.Bool.{true≢false, and_parts, and_from, eqb-true, eq-eqb}
use Rattle.snap_base.specs.declared.transactions.State.{State}
use Rattle.protocol.specs.Fixed.{Fixed}
use Rattle.protocol.specs.Records as machine
use Rattle.protocol.specs.Records.{LogRecord}
use Rattle.protocol.specs.Parts.{OfBatch, OfAct, Machine}
use Rattle.protocol_records.specs.Crash.{is_in, recovered_state}
use Rattle.protocol_records.specs.SeveralRuns.{recovered_from}
use Rattle.txn_records.specs.declared.records.Record.{Record}
use Rattle.txn_records.specs.declared.records.Record.TheVariants.{Genesis, BatchInfo, BatchComplete, BatchCommit, ActPrepare, ActCommit, BatchDone, ActDone, Checkpoint}
use Rattle.snap_recover.specs.declared.openings.Opening.{Opening}
use Rattle.snap_recover.specs.Logs.{log_of, tids_in, bids_in}
use Rattle.snap_recover.specs.Opening.{Counts, IsStateOf}
use Rattle.snap_recover.specs.Passes.{StateOver}
use Rattle.snap_recover.proofs.StatesOver.{Agree, over_alike}
use Rattle.log_set.specs.Told.{bid_of, tid_of}
use Rattle.recovery_laws.specs.Grown.{grown}
use Rattle.recovery_laws.proofs.WrittenLists.{act_tids, batch_bids, Counted, over_written}
use Rattle.recovery_laws.proofs.KnownLogs.{Known, log_grown, old_low, in_old, in_cases, in_stays, in_new, new_low, old_acts_low, act_old, act_cases, act_stays, act_new, new_act_low}

-- ---- states

agree_old : {C : Type 0} (w : Fixed C) (earlier : List (List Record)) (o : Opening) (s : Machine C) (logs : ℕ → List LogRecord) (a : ℕ) (rs : List Record) → Known w earlier o s logs → AllByRecursion (λ r. AllByRecursion (λ x. x < w.text.opening.next_bid) (bids_in r)) rs → AllByRecursion (λ r. AllByRecursion (λ x. x < w.text.opening.next_tid) (tids_in r)) rs → AllByRecursion (Agree (Counts earlier a) (Counts (grown earlier logs) a)) rs
agree_old w earlier o s logs a [] g h k = tt
agree_old {C} w earlier o s logs a (r ∷ rs) g h k = (one r h.0 k.0, agree_old w earlier o s logs a rs g h.1 k.1)
  where
    one : (r : Record) → AllByRecursion (λ x. x < w.text.opening.next_bid) (bids_in r) → AllByRecursion (λ x. x < w.text.opening.next_tid) (tids_in r) → Agree (Counts earlier a) (Counts (grown earlier logs) a) r
    one (Genesis n ss) l k = ((λ q. q), (λ q. q))
    one (BatchInfo b actors tids) l k = ((λ q. q), (λ q. q))
    one (BatchCommit b) l k = ((λ q. q), (λ q. q))
    one (BatchComplete b c st) l k = (
      (λ q. (q.0, in_stays w earlier o s logs b g q.1)),
      (λ q. (q.0, elim (in_cases w earlier o s logs b g q.1) [ inl i ↦ i | inr i ↦ absurd (omega (arith, l.0, new_low w earlier o s logs b.0 g i)) ])),
    )
    one (ActPrepare t c st) l k = (
      (λ q. (q.0, act_stays w earlier o s logs t g q.1)),
      (λ q. (q.0, elim (act_cases w earlier o s logs t g q.1) [ inl i ↦ i | inr i ↦ absurd (omega (arith, k.0, new_act_low w earlier o s logs t.0 g i)) ])),
    )
    one (ActCommit t m c actors) l k = ((λ q. q), (λ q. q))
    one (BatchDone b v) l k = ((λ q. q), (λ q. q))
    one (ActDone t m c v actors) l k = ((λ q. q), (λ q. q))
    one (Checkpoint g t b c m n states) l k = ((λ q. q), (λ q. q))

counted_new : {C : Type 0} (w : Fixed C) (earlier : List (List Record)) (o : Opening) (s : Machine C) (logs : ℕ → List LogRecord) (a : ℕ) (rs : List LogRecord) → Known w earlier o s logs → AllByRecursion (λ r. AllByRecursion (λ n. w.text.opening.next_bid ≤ n) (batch_bids r)) rs → AllByRecursion (λ r. AllByRecursion (λ n. w.text.opening.next_tid ≤ n) (act_tids r)) rs
    → AllByRecursion (Counted (Counts (grown earlier logs) a) w.text.logs logs a) rs
counted_new w earlier o s logs a [] g l k = tt
counted_new {C} w earlier o s logs a (r ∷ rs) g l k = (one r l.0 k.0, counted_new w earlier o s logs a rs g l.1 k.1)
  where
    one : (r : LogRecord) → AllByRecursion (λ n. w.text.opening.next_bid ≤ n) (batch_bids r) → AllByRecursion (λ n. w.text.opening.next_tid ≤ n) (act_tids r) → Counted (Counts (grown earlier logs) a) w.text.logs logs a r
    one (machine.BatchInfo k actors tids) l u = tt
    one (machine.BatchDone k vs) l u = tt
    one (machine.ActDone t m c v actors) l u = tt
    one (machine.BatchComplete k c st) l u = (
      (λ e. let v = and_parts (c == a) (is_in w.text.logs logs (OfBatch k)) e in (eqb-true c a v.0, in_new w earlier o s logs k g v.1)),
      (λ e q. elim (in_cases w earlier o s logs (bid_of k) g q.1) [
        | inl i ↦ omega (arith, l.0, in_old w earlier o s logs (bid_of k) g i)
        | inr i ↦ true≢false (sym (and_from (c == a) (is_in w.text.logs logs (OfBatch k)) (eq-eqb c a q.0) i) ∙ e)
      ]),
    )
    one (machine.ActPrepare t c st) l u = (
      (λ e. let v = and_parts (c == a) (is_in w.text.logs logs (OfAct t)) e in (eqb-true c a v.0, act_new w earlier o s logs t g v.1)),
      (λ e q. elim (act_cases w earlier o s logs (tid_of t) g q.1) [
        | inl i ↦ omega (arith, u.0, act_old w earlier o s logs (tid_of t) g i)
        | inr i ↦ true≢false (sym (and_from (c == a) (is_in w.text.logs logs (OfAct t)) (eq-eqb c a q.0) i) ∙ e)
      ]),
    )

state_grown : {C : Type 0} (w : Fixed C) (earlier : List (List Record)) (o : Opening) (s : Machine C) (logs : ℕ → List LogRecord) (a : ℕ) (first x : State) → Known w earlier o s logs → IsStateOf earlier a first x → IsStateOf (grown earlier logs) a first (recovered_state w.text.logs logs a x)
state_grown w earlier o s logs a first x g h =
    let P = Counts (grown earlier logs) a in
    let old : StateOver (Counts (grown earlier logs) a) (log_of earlier a) first x = over_alike (Counts earlier a) P (log_of earlier a) first x (agree_old w earlier o s logs a (log_of earlier a) g (old_low w earlier o s logs a g) (old_acts_low w earlier o s logs a g)) h in
    subst (λ z. StateOver (Counts (grown earlier logs) a) z first (recovered_state w.text.logs logs a x)) (sym (log_grown w earlier o s logs a g))
    (over_written P w.text.logs a logs first (logs (a % w.text.logs)) (log_of earlier a) x (record { infos = λ b actors tids q. q; commits = λ b v q. q; acts = λ t m c v actors q. q }) (counted_new w earlier o s logs a (logs (a % w.text.logs)) g (g.low (a % w.text.logs)) (g.low_acts (a % w.text.logs))) old)

pub states_grown : {C : Type 0} (w : Fixed C) (earlier : List (List Record)) (o : Opening) (s : Machine C) (logs : ℕ → List LogRecord) (n : ℕ) (first states : List State) → Known w earlier o s logs → AllZip (λ (x : ℕ × State) t. IsStateOf earlier x.0 x.1 t) (enumerate_from n first) states
    → AllZip (λ (x : ℕ × State) t. IsStateOf (grown earlier logs) x.0 x.1 t) (enumerate_from n first) (recovered_from w.text.logs logs n states)
states_grown w earlier o s logs n [] [] g h = tt
states_grown w earlier o s logs n [] (y ∷ ys) g h = h
states_grown w earlier o s logs n (x ∷ xs) [] g h = h
states_grown w earlier o s logs n (x ∷ xs) (y ∷ ys) g h = (state_grown w earlier o s logs n x y g h.0, states_grown w earlier o s logs (n + 1) xs ys g h.1)
