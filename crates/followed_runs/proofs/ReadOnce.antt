-- Of each key at most one record is among what is read of a log, whatever is read of the runs.
use Rattle.std.specs.Prelude.{◌≡◌, refl, ℕ, zero, suc, ◌+◌, ◌≤◌, ◌<◌, ◌==◌, not, Bool, true, false, ◌&&◌, List, [], ◌∷◌, ◌++◌, length, filter, slice_index_or}
use Rattle.std.specs.List.{AllByRecursion, list_any}
use Rattle.std.proofs.Common.{arith, sym, ap, subst, inl, inr, ◌∙◌}
use Rattle.std.proofs.lemmas.Bool.{true≢false, or_parts, and_parts, eqb-true, cases_Bool}
use Rattle.snap_base.specs.declared.transactions.Tx.{Tx}
use Rattle.snap_base.specs.declared.transactions.State.{State}
use Rattle.snap_base.proofs.Options.{some_mapped}
use Rattle.protocol.specs.Facts.{Alone}
use Rattle.protocol.specs.Fixed.{Opening, Fixed}
use Rattle.protocol.specs.Records.{LogRecord, BatchInfo, BatchComplete, BatchDone, ActPrepare, ActDone, is_info}
use Rattle.protocol.specs.Parts.{Log, Who, OfBatch, OfAct, Machine}
use Rattle.protocol.specs.Events.{Event}
use Rattle.protocol.specs.Words.{is_among, is_value, is_formed, count, act_of, batch_of}
use Rattle.protocol.specs.Effects.{log_at, no_log}
use Rattle.protocol.specs.Runs.{IsRun, reached}
use Rattle.protocol_laws.specs.Ranges.{NumbersInRange}
use Rattle.protocol_laws.proofs.first.Lists.{any_front, any_join, filter_join}
use Rattle.protocol_laws.proofs.first.Ranges.{numbers_in_range}
use Rattle.protocol_laws.proofs.first.Times.{length_join}
use Rattle.protocol_laws.proofs.machine.TurnsKept.{one_is}
use Rattle.protocol_laws.proofs.machine.Good.{Given}
use Rattle.protocol_records.specs.Crash.{bids_in, tids_in}
use Rattle.protocol_records.specs.NextNumbers.{next_tid_of, next_bid_of}
use Rattle.protocol_records.specs.RecordLaws.{RecordKey, OfInfo, OfComplete, OfCommit, OfPrepare, OfActCommit, has_key, all_records, TellsOf, batch_actors, act_actors}
use Rattle.protocol_records.specs.SeveralRuns.{CutRun, logs_left, opening_left}
use Rattle.protocol_records.proofs.recording.RecordLists.{of_any}
use Rattle.protocol_records.proofs.recording.RecordsHold.{added_once, tells_of}
use Rattle.followed_runs.specs.FollowingRuns.{RunsReading, head_read, tail_read, runs_read, RecordsReadOnce}
use Rattle.followed_runs.proofs.Seen.{NoLess}
use Rattle.followed_runs.proofs.Numbers.{IsLow, IsHigh, batch_low, act_low, find_it, is_below, commit_below, complete_below, act_below, prepare_below}
use Rattle.followed_runs.proofs.RunParts.{Sound, Of, given, run_of, head_listed, head_left, IsFrom, Runs, sound, runs_behind, from_low, from_left, not_both}

-- ---- whose a key is

abbrev who_of_key : RecordKey → Who
who_of_key (OfInfo k) = OfBatch k
who_of_key (OfComplete k a) = OfBatch k
who_of_key (OfCommit k) = OfBatch k
who_of_key (OfPrepare t a) = OfAct t
who_of_key (OfActCommit t) = OfAct t

-- what a record tells is known in its run, so its numbers are not below the first ones
told_low : {C : Type 0} (w : Fixed C) (s : Machine C) (k : RecordKey) (r : LogRecord) → NumbersInRange w s → TellsOf s.desk.batches s.book.acts r → has_key k r ≡ true → IsLow w (who_of_key k)
told_low w s (OfInfo k) (BatchInfo j actors tids) n t e = let b = some_mapped batch_actors (batch_of j s.desk.batches) actors t.0 in subst (λ z. w.text.opening.next_bid ≤ z) (eqb-true j k e) (batch_low w s j b.0 n b.1)
told_low w s (OfInfo k) (BatchComplete j a st) n t e = absurd (true≢false (sym e))
told_low w s (OfInfo k) (BatchDone j vs) n t e = absurd (true≢false (sym e))
told_low w s (OfInfo k) (ActPrepare u a st) n t e = absurd (true≢false (sym e))
told_low w s (OfInfo k) (ActDone u m c v actors) n t e = absurd (true≢false (sym e))
told_low w s (OfComplete k a) (BatchInfo j actors tids) n t e = absurd (true≢false (sym e))
told_low w s (OfComplete k a) (BatchComplete j b st) n t e = let x = one_is (λ x. is_among b (batch_actors x)) (batch_of j s.desk.batches) t in subst (λ z. w.text.opening.next_bid ≤ z) (eqb-true j k (and_parts (j == k) (b == a) e).0) (batch_low w s j x.0 n x.1)
told_low w s (OfComplete k a) (BatchDone j vs) n t e = absurd (true≢false (sym e))
told_low w s (OfComplete k a) (ActPrepare u b st) n t e = absurd (true≢false (sym e))
told_low w s (OfComplete k a) (ActDone u m c v actors) n t e = absurd (true≢false (sym e))
told_low w s (OfCommit k) (BatchInfo j actors tids) n t e = absurd (true≢false (sym e))
told_low w s (OfCommit k) (BatchComplete j a st) n t e = absurd (true≢false (sym e))
told_low w s (OfCommit k) (BatchDone j vs) n t e = let x = one_is (λ x. not (is_formed x.stage)) (batch_of j s.desk.batches) t.0 in subst (λ z. w.text.opening.next_bid ≤ z) (eqb-true j k e) (batch_low w s j x.0 n x.1)
told_low w s (OfCommit k) (ActPrepare u a st) n t e = absurd (true≢false (sym e))
told_low w s (OfCommit k) (ActDone u m c v actors) n t e = absurd (true≢false (sym e))
told_low w s (OfPrepare k a) (BatchInfo j actors tids) n t e = absurd (true≢false (sym e))
told_low w s (OfPrepare k a) (BatchComplete j b st) n t e = absurd (true≢false (sym e))
told_low w s (OfPrepare k a) (BatchDone j vs) n t e = absurd (true≢false (sym e))
told_low w s (OfPrepare k a) (ActPrepare u b st) n t e = let x = one_is (λ x. is_value x.result && is_among b (act_actors x)) (act_of u s.book.acts) t in subst (λ z. w.text.opening.next_tid ≤ z) (eqb-true u k (and_parts (u == k) (b == a) e).0) (act_low w s u x.0 n x.1)
told_low w s (OfPrepare k a) (ActDone u m c v actors) n t e = absurd (true≢false (sym e))
told_low w s (OfActCommit k) (BatchInfo j actors tids) n t e = absurd (true≢false (sym e))
told_low w s (OfActCommit k) (BatchComplete j a st) n t e = absurd (true≢false (sym e))
told_low w s (OfActCommit k) (BatchDone j vs) n t e = absurd (true≢false (sym e))
told_low w s (OfActCommit k) (ActPrepare u a st) n t e = absurd (true≢false (sym e))
told_low w s (OfActCommit k) (ActDone u m c v actors) n t e = subst (λ z. w.text.opening.next_tid ≤ z) (eqb-true u k e) (act_low w s u t.act n t.found)

record_low : {C : Type 0} (w : Fixed C) (F : Tx → C → Type 0) (finish : C → List State → Alone) (es : List Event) (l : ℕ) (k : RecordKey) → Given w F finish → IsRun w es → list_any (has_key k) (log_at (reached w es) l).records ≡ true → IsLow w (who_of_key k)
record_low w F finish es l k v run h = of_any (TellsOf (reached w es).desk.batches (reached w es).book.acts) (has_key k) (IsLow w (who_of_key k)) (log_at (reached w es) l).records (tells_of w F finish es v run l) (λ r t e. told_low w (reached w es) k r (numbers_in_range w es v.text run) t e) h

-- ---- below the next ones

info_below : (k n : ℕ) (r : LogRecord) → is_info k r ≡ true → AllByRecursion (λ z. z < n) (bids_in r) → k < n
info_below k n (BatchInfo j xs ts) e h = subst (λ z. z < n) (eqb-true j k e) h.0
info_below k n (BatchComplete j a st) e h = absurd (true≢false (sym e))
info_below k n (BatchDone j vs) e h = absurd (true≢false (sym e))
info_below k n (ActPrepare t a st) e h = absurd (true≢false (sym e))
info_below k n (ActDone t m c v xs) e h = absurd (true≢false (sym e))

record_high : {C : Type 0} (w : Fixed C) (logs : ℕ → List LogRecord) (l : ℕ) (k : RecordKey) → l < w.text.logs → list_any (has_key k) (logs l) ≡ true → IsHigh w logs (who_of_key k)
record_high w logs l (OfInfo k) m h = let f = find_it (has_key (OfInfo k)) (logs l) h in info_below k (next_bid_of w logs) f.it f.is (is_below bids_in w.text.opening.next_bid w.text.logs l logs f.front f.rest f.it m f.splits)
record_high w logs l (OfComplete k a) m h = let f = find_it (has_key (OfComplete k a)) (logs l) h in complete_below k a (next_bid_of w logs) f.it f.is (is_below bids_in w.text.opening.next_bid w.text.logs l logs f.front f.rest f.it m f.splits)
record_high w logs l (OfCommit k) m h = let f = find_it (has_key (OfCommit k)) (logs l) h in commit_below k (next_bid_of w logs) f.it f.is (is_below bids_in w.text.opening.next_bid w.text.logs l logs f.front f.rest f.it m f.splits)
record_high w logs l (OfPrepare t a) m h = let f = find_it (has_key (OfPrepare t a)) (logs l) h in prepare_below t a (next_tid_of w logs) f.it f.is (is_below tids_in w.text.opening.next_tid w.text.logs l logs f.front f.rest f.it m f.splits)
record_high w logs l (OfActCommit t) m h = let f = find_it (has_key (OfActCommit t)) (logs l) h in act_below t (next_tid_of w logs) f.it f.is (is_below tids_in w.text.opening.next_tid w.text.logs l logs f.front f.rest f.it m f.splits)

-- ---- counts

count_join : (p : LogRecord → Bool) (xs ys : List LogRecord) → count p (xs ++ ys) ≡ count p xs + count p ys
count_join p xs ys = ap length (filter_join p xs ys) ∙ length_join (filter p xs) (filter p ys)

count_none : (p : LogRecord → Bool) (xs : List LogRecord) → list_any p xs ≡ false → count p xs ≡ 0
count_none p [] e = refl
count_none p (x ∷ xs) e = let v = or_parts (p x) (list_any p xs) e in rw v.0 (count_none p xs v.1)

count_at : (p : LogRecord → Bool) (logs : List Log) (l : ℕ) → count p (slice_index_or logs l no_log).records ≤ count p (all_records logs)
count_at p [] l = omega arith
count_at p (x ∷ xs) zero = omega (arith, count_join p x.records (all_records xs))
count_at p (x ∷ xs) (suc l) = omega (arith, count_join p x.records (all_records xs), count_at p xs l)

once_here : {C : Type 0} (x : CutRun C) (xs : List (CutRun C)) (s : Sound x) (r : RunsReading (x ∷ xs)) (l : ℕ) (k : RecordKey) → count (has_key k) (head_read x xs r l) ≤ 1
once_here x xs s r l k =
    let m = (head_listed x xs s r).rest l in
    let o = (added_once x.fixed x.finish x.moment.events s.may.facts s.may.text (run_of x s)).once k in
    omega (arith, o, count_at (has_key k) (reached x.fixed x.moment.events).logs l, ap (count (has_key k)) m.1, count_join (has_key k) (head_read x xs r l) m.0)

-- ---- over all runs

record_from : {C : Type 0} (many l : ℕ) (o : Opening) (xs : List (CutRun C)) (r : RunsReading xs) (k : RecordKey) → Runs many o xs → list_any (has_key k) (runs_read xs r l) ≡ true → IsFrom o (who_of_key k)
record_from many l o [] r k g h = absurd (true≢false (sym h))
record_from many l o (x ∷ xs) r k g h =
    let s = sound many o x xs g in
    elim (any_join (has_key k) (head_read x xs r l) (runs_read xs (tail_read x xs r) l) h) [
      | inl i ↦ let m = (head_listed x xs s r).rest l in from_low x.fixed o (who_of_key k) g.2.1 (record_low x.fixed (Of x) x.finish x.moment.events l k (given x s) (run_of x s) (ap (list_any (has_key k)) m.1 ∙ any_front (has_key k) (head_read x xs r l) m.0 i))
      | inr i ↦ from_left x o (who_of_key k) g.2.1 (record_from many l (opening_left x) xs (tail_read x xs r) k (runs_behind many o x xs g) i)
    ]

pub read_once : {C : Type 0} (many : ℕ) (o : Opening) (xs : List (CutRun C)) (r : RunsReading xs) (l : ℕ) (k : RecordKey) → Runs many o xs → l < many → count (has_key k) (runs_read xs r l) ≤ 1
unfolding NoLess
read_once many o [] r l k g m = omega arith
read_once {C} many o (x ∷ xs) r l k g m = elim (cases_Bool (list_any (has_key k) (head_read x xs r l))) [
  | inr e ↦ omega (arith, count_join (has_key k) (head_read x xs r l) (runs_read xs (tail_read x xs r) l), count_none (has_key k) (head_read x xs r l) e, read_once many (opening_left x) xs (tail_read x xs r) l k (runs_behind many o x xs g) m)
  | inl e ↦ elim (cases_Bool (list_any (has_key k) (runs_read xs (tail_read x xs r) l))) [
    | inr f ↦ omega (arith, count_join (has_key k) (head_read x xs r l) (runs_read xs (tail_read x xs r) l), count_none (has_key k) (runs_read xs (tail_read x xs r) l) f, once_here x xs (sound many o x xs g) r l k)
    | inl f ↦ absurd (not_both x (who_of_key k) (high e) (record_from many l (opening_left x) xs (tail_read x xs r) k (runs_behind many o x xs g) f))
  ]
]
  where
    high : list_any (has_key k) (head_read x xs r l) ≡ true → IsHigh x.fixed (logs_left x) (who_of_key k)
    high e =
        let s = sound many o x xs g in
        let t = head_left x xs s r l in
        record_high x.fixed (logs_left x) l k (subst (λ n. l < n) (sym g.1.0) m) (ap (list_any (has_key k)) t.1 ∙ any_front (has_key k) (head_read x xs r l) t.0 e)

pub records_once : {C : Type 0} → RecordsReadOnce C
records_once many o xs r actors same go l m k = read_once many o xs r l k (actors, same, go) m
