-- The numbers of who has a record: those of a run are not below the ones with which it began, and below the ones that it leaves.
use Rattle.std.specs.Prelude.{◌≡◌, refl, ℕ, zero, suc, ◌+◌, ◌≤◌, ◌<◌, ◌%◌, ◌==◌, nat_lt, Bool, true, false, Option, Some, None, is_some, List, [], ◌∷◌, ◌++◌, max}
use Rattle.std.specs.List.{AllByRecursion, list_any, flat_map}
use Rattle.std.proofs.Common.{arith, sym, ap, subst, mod-lt, inl, inr, ◌∙◌}
use Rattle.std.proofs.lemmas.Bool.{true≢false, or_cases, and_parts, eqb-true, ltb-true, ltb-false, cases_Bool, false_from_ne_true}
use Rattle.snap_base.specs.declared.transactions.Tx.{Tx}
use Rattle.snap_base.specs.declared.transactions.State.{State}
use Rattle.protocol.specs.Facts.{Alone}
use Rattle.protocol.specs.Fixed.{Fixed}
use Rattle.protocol.specs.Records.{LogRecord, BatchInfo, BatchComplete, BatchDone, ActPrepare, ActDone, is_complete, is_commit, is_prepare, is_act_commit}
use Rattle.protocol.specs.Parts.{Act, Batch, Who, OfBatch, OfAct, Machine}
use Rattle.protocol.specs.Events.{Event}
use Rattle.protocol.specs.Words.{greatest, below, is_who, act_of, batch_of}
use Rattle.protocol.specs.Effects.{log_at}
use Rattle.protocol.specs.Runs.{IsRun, reached}
use Rattle.protocol.specs.History.{history}
use Rattle.protocol_laws.specs.Commits.{is_kept}
use Rattle.protocol_laws.specs.Marks.{Known}
use Rattle.protocol_laws.specs.Ranges.{BatchInRange, ActInRange, NumbersInRange}
use Rattle.protocol_laws.proofs.first.Lists.{all_back, all_found, all_front, all_mid, weaker}
use Rattle.protocol_laws.proofs.first.Ranges.{numbers_in_range}
use Rattle.protocol_laws.proofs.machine.ActsKept.{KnownActs}
use Rattle.protocol_laws.proofs.machine.ReadersCommit.{ReadersOf, reads_with_value}
use Rattle.protocol_laws.proofs.machine.TurnsKept.{one_is}
use Rattle.protocol_laws.proofs.machine.Good.{Given}
use Rattle.protocol_laws.proofs.machine.AllGood.{all_good}
use Rattle.protocol_records.specs.Logged.{actors_of_batch}
use Rattle.protocol_records.specs.NextNumbers.{numbers_in, next_number, next_tid_of, next_bid_of}
use Rattle.protocol_records.specs.Telling.{One, told_states, names}
use Rattle.protocol_records.specs.Crash.{is_in, bids_in, tids_in}
use Rattle.protocol_records.proofs.crash.KeptAll.{reader_there}
use Rattle.protocol_records.proofs.crash.NoneBehind.{both_hold}
use Rattle.protocol_records.proofs.crash.OnceKept.{Declares}
use Rattle.protocol_records.proofs.crash.TellsKept.{told_all, no_batch_reads}
use Rattle.followed_runs.proofs.ReadersFirst.{told_at, named_logged, has_value_there}
use Rattle.followed_runs.proofs.OneCommits.{in_either}
use Rattle.followed_runs.proofs.InOrder.{in_order}

-- not below the run's first numbers
abbrev pub IsLow : {C : Type 0} → Fixed C → Who → Type 0
IsLow w (OfBatch k) = w.text.opening.next_bid ≤ k
IsLow w (OfAct t) = w.text.opening.next_tid ≤ t

-- below the ones that the logs leave
abbrev pub IsHigh : {C : Type 0} → Fixed C → (ℕ → List LogRecord) → Who → Type 0
IsHigh w logs (OfBatch k) = k < next_bid_of w logs
IsHigh w logs (OfAct t) = t < next_tid_of w logs

-- ---- not below the first ones

some_there : {X : Type 0} (o : Option X) → is_some o ≡ true → (x : X) × (o ≡ Some x)
some_there None e = absurd (true≢false (sym e))
some_there (Some x) e = (x, refl)

pub batch_low : {C : Type 0} (w : Fixed C) (s : Machine C) (k : ℕ) (b : Batch) → NumbersInRange w s → batch_of k s.desk.batches ≡ Some b → w.text.opening.next_bid ≤ k
batch_low w s k b n e = let f = all_found (BatchInRange w s) (λ b. b.bid == k) s.desk.batches b n.batches e in subst (λ z. w.text.opening.next_bid ≤ z) (eqb-true b.bid k f.1) f.0.bid.reached

pub act_low : {C : Type 0} (w : Fixed C) (s : Machine C) (t : ℕ) (x : Act) → NumbersInRange w s → act_of t s.book.acts ≡ Some x → w.text.opening.next_tid ≤ t
act_low w s t x n e = let f = all_found (ActInRange w s) (λ x. x.tid == t) s.book.acts x n.acts e in subst (λ z. w.text.opening.next_tid ≤ z) (eqb-true x.tid t f.1) f.0.tid.reached

pub low_committed : {C : Type 0} (w : Fixed C) (Of : Tx → C → Type 0) (finish : C → List State → Alone) (es : List Event) (y : Who) → Given w Of finish → IsRun w es → in_either (history w es).kept (history w es).kept_readers y ≡ true → IsLow w y
unfolding Known KnownActs ReadersOf
low_committed w Of finish es (OfBatch k) v run h =
    let g = all_good w Of finish es v run in
    let kept : is_kept (OfBatch k) (history w es).kept ≡ true = elim (or_cases (is_kept (OfBatch k) (history w es).kept) (is_kept (OfBatch k) (history w es).kept_readers) h) [ inl q ↦ q | inr q ↦ absurd (true≢false (sym q ∙ no_batch_reads w Of finish (reached w es) (history w es) k g)) ] in
    let b = some_there (batch_of k (reached w es).desk.batches) (g.good.known k kept) in
    batch_low w (reached w es) k b.0 (numbers_in_range w es v.text run) b.1
low_committed w Of finish es (OfAct t) v run h =
    let g = all_good w Of finish es v run in
    elim (or_cases (is_kept (OfAct t) (history w es).kept) (is_kept (OfAct t) (history w es).kept_readers) h) [
      | inl q ↦ let x = some_there (act_of t (reached w es).book.acts) (g.known t q) in act_low w (reached w es) t x.0 (numbers_in_range w es v.text run) x.1
      | inr q ↦ let x = one_is reads_with_value (act_of t (reached w es).book.acts) (reader_there (reached w es).book.acts t (history w es).kept_readers g.readers_of q) in act_low w (reached w es) t x.0 (numbers_in_range w es v.text run) x.1
    ]

-- who is named has a record
pub named_completed : (k a : ℕ) (rs : List LogRecord) → names (OfBatch k) (told_states a rs) ≡ true → list_any (is_complete k a) rs ≡ true
named_completed k a rs n = elim (cases_Bool (list_any (is_complete k a) rs)) [
  | inl q ↦ q
  | inr q ↦ absurd (true≢false (sym n ∙ none (told_states a rs) (told_all (λ y. is_who (OfBatch k) y ≡ false) a rs (λ j r. false_from_ne_true (k == j) (λ e. true≢false (sym (subst (λ z. list_any (is_complete z a) rs ≡ true) (sym (eqb-true k j e)) r) ∙ q))) (λ u r. refl))))
]
  where
    none : (os : List One) → AllByRecursion (λ o. is_who (OfBatch k) o.who ≡ false) os → names (OfBatch k) os ≡ false
    none [] h = refl
    none (o ∷ os) h = rw (h.0, none os h.1) refl

pub some_batch : (o : Option Batch) (xs : List ℕ) → actors_of_batch o ≡ Some xs → (b : Batch) × (o ≡ Some b)
some_batch None xs e = absurd (cc e)
some_batch (Some b) xs e = (b, refl)

pub low_named : {C : Type 0} (w : Fixed C) (Of : Tx → C → Type 0) (finish : C → List State → Alone) (es : List Event) (a : ℕ) (y : Who) → Given w Of finish → IsRun w es → names y (told_at w (reached w es) a) ≡ true → IsLow w y
unfolding Declares
low_named w Of finish es a (OfBatch k) v run h =
    let d = (both_hold w Of finish es v run).once.declares k a (named_completed k a (log_at (reached w es) (a % w.text.logs)).records h) in
    let b = some_batch (batch_of k (reached w es).desk.batches) d.0 d.1 in
    batch_low w (reached w es) k b.0 (numbers_in_range w es v.text run) b.1
low_named w Of finish es a (OfAct t) v run h =
    let x = has_value_there w (reached w es) t a (in_order w Of finish es v run).known.logs.prepared h in
    act_low w (reached w es) t x.0 (numbers_in_range w es v.text run) x.1.0

-- ---- below the next ones

below_next : (ns : List ℕ) → AllByRecursion (λ n. n < greatest ns + 1) ns
below_next [] = tt
below_next (n ∷ ns) = (omega arith, weaker (λ m. m < greatest ns + 1) (λ m. m < max n (greatest ns) + 1) ns (λ m l. omega (arith, l)) (below_next ns))

of_flat : {X Y : Type 0} (P : Y → Type 0) (f : X → List Y) (xs : List X) → AllByRecursion P (flat_map f xs) → AllByRecursion (λ x. AllByRecursion P (f x)) xs
of_flat P f [] h = tt
of_flat P f (x ∷ xs) h = (all_front P (f x) (flat_map f xs) h, of_flat P f xs (all_back P (f x) (flat_map f xs) h))

at_below : (P : ℕ → Type 0) (n i : ℕ) → AllByRecursion P (below n) → i < n → P i
at_below P zero i h l = absurd (omega (arith, l))
at_below P (suc n) i h l = by (nat_lt i n) refl (at_below P n i (all_front P (below n) (n ∷ []) h))
  where
    by : (b : Bool) → nat_lt i n ≡ b → (i < n → P i) → P i
    by true e r = r (ltb-true i n e)
    by false e r = let j : n ≡ i = omega (arith, l, ltb-false i n e) in subst P j (all_back P (below n) (n ∷ []) h).0

-- what a record names is below the next number
pub is_below : (numbers : LogRecord → List ℕ) (first many l : ℕ) (logs : ℕ → List LogRecord) (front rest : List LogRecord) (r : LogRecord) → l < many → logs l ≡ front ++ r ∷ rest → AllByRecursion (λ n. n < next_number numbers first many logs) (numbers r)
is_below numbers first many l logs front rest r m e =
    let P : ℕ → Type 0 = λ n. n < next_number numbers first many logs in
    let all : AllByRecursion P (numbers_in numbers many logs) = weaker (λ n. n < greatest (numbers_in numbers many logs) + 1) P (numbers_in numbers many logs) (λ n k. omega (arith, k)) (below_next (numbers_in numbers many logs)) in
    let here : AllByRecursion P (flat_map numbers (logs l)) = at_below (λ i. AllByRecursion P (flat_map numbers (logs i))) many l (of_flat P (λ i. flat_map numbers (logs i)) (below many) all) m in
    all_mid (λ x. AllByRecursion P (numbers x)) r front rest (of_flat P numbers (front ++ r ∷ rest) (subst (λ z. AllByRecursion P (flat_map numbers z)) e here))

pub record Found (p : LogRecord → Bool) (rs : List LogRecord) : Type 0 where
  pub front : List LogRecord
  pub it : LogRecord
  pub rest : List LogRecord
  pub splits : rs ≡ front ++ it ∷ rest
  pub is : p it ≡ true

pub find_it : (p : LogRecord → Bool) (rs : List LogRecord) → list_any p rs ≡ true → Found p rs
find_it p [] h = absurd (true≢false (sym h))
find_it p (r ∷ rs) h = elim (or_cases (p r) (list_any p rs) h) [
  | inl e ↦ record { front = []; it = r; rest = rs; splits = refl; is = e }
  | inr e ↦ let f = find_it p rs e in record { front = r ∷ f.front; it = f.it; rest = f.rest; splits = ap (λ z. r ∷ z) f.splits; is = f.is }
]

pub commit_below : (k n : ℕ) (r : LogRecord) → is_commit k r ≡ true → AllByRecursion (λ z. z < n) (bids_in r) → k < n
commit_below k n (BatchInfo j xs ts) e h = absurd (true≢false (sym e))
commit_below k n (BatchComplete j a st) e h = absurd (true≢false (sym e))
commit_below k n (BatchDone j vs) e h = subst (λ z. z < n) (eqb-true j k e) h.0
commit_below k n (ActPrepare t a st) e h = absurd (true≢false (sym e))
commit_below k n (ActDone t m c v xs) e h = absurd (true≢false (sym e))

pub complete_below : (k a n : ℕ) (r : LogRecord) → is_complete k a r ≡ true → AllByRecursion (λ z. z < n) (bids_in r) → k < n
complete_below k a n (BatchInfo j xs ts) e h = absurd (true≢false (sym e))
complete_below k a n (BatchComplete j b st) e h = subst (λ z. z < n) (eqb-true j k (and_parts (j == k) (b == a) e).0) h.0
complete_below k a n (BatchDone j vs) e h = absurd (true≢false (sym e))
complete_below k a n (ActPrepare t b st) e h = absurd (true≢false (sym e))
complete_below k a n (ActDone t m c v xs) e h = absurd (true≢false (sym e))

pub act_below : (t n : ℕ) (r : LogRecord) → is_act_commit t r ≡ true → AllByRecursion (λ z. z < n) (tids_in r) → t < n
act_below t n (BatchInfo j xs ts) e h = absurd (true≢false (sym e))
act_below t n (BatchComplete j a st) e h = absurd (true≢false (sym e))
act_below t n (BatchDone j vs) e h = absurd (true≢false (sym e))
act_below t n (ActPrepare u a st) e h = absurd (true≢false (sym e))
act_below t n (ActDone u m c v xs) e h = subst (λ z. z < n) (eqb-true u t e) h.0

pub prepare_below : (t a n : ℕ) (r : LogRecord) → is_prepare t a r ≡ true → AllByRecursion (λ z. z < n) (tids_in r) → t < n
prepare_below t a n (BatchInfo j xs ts) e h = absurd (true≢false (sym e))
prepare_below t a n (BatchComplete j b st) e h = absurd (true≢false (sym e))
prepare_below t a n (BatchDone j vs) e h = absurd (true≢false (sym e))
prepare_below t a n (ActPrepare u b st) e h = subst (λ z. z < n) (eqb-true u t (and_parts (u == t) (b == a) e).0) h.0
prepare_below t a n (ActDone u m c v xs) e h = absurd (true≢false (sym e))

pub high_in : {C : Type 0} (w : Fixed C) (logs : ℕ → List LogRecord) (y : Who) → 1 ≤ w.text.logs → is_in w.text.logs logs y ≡ true → IsHigh w logs y
high_in w logs (OfBatch k) some h =
    let f = find_it (is_commit k) (logs (k % w.text.logs)) h in
    commit_below k (next_bid_of w logs) f.it f.is (is_below bids_in w.text.opening.next_bid w.text.logs (k % w.text.logs) logs f.front f.rest f.it (mod-lt k some) f.splits)
high_in w logs (OfAct t) some h =
    let f = find_it (is_act_commit t) (logs (t % w.text.logs)) h in
    act_below t (next_tid_of w logs) f.it f.is (is_below tids_in w.text.opening.next_tid w.text.logs (t % w.text.logs) logs f.front f.rest f.it (mod-lt t some) f.splits)

pub high_named : {C : Type 0} (w : Fixed C) (logs : ℕ → List LogRecord) (a : ℕ) (y : Who) → 1 ≤ w.text.logs → names y (told_states a (logs (a % w.text.logs))) ≡ true → IsHigh w logs y
high_named w logs a (OfBatch k) some h =
    let f = find_it (is_complete k a) (logs (a % w.text.logs)) (named_completed k a (logs (a % w.text.logs)) h) in
    complete_below k a (next_bid_of w logs) f.it f.is (is_below bids_in w.text.opening.next_bid w.text.logs (a % w.text.logs) logs f.front f.rest f.it (mod-lt a some) f.splits)
high_named w logs a (OfAct t) some h =
    let f = find_it (is_prepare t a) (logs (a % w.text.logs)) (named_logged t a (logs (a % w.text.logs)) h) in
    prepare_below t a (next_tid_of w logs) f.it f.is (is_below tids_in w.text.opening.next_tid w.text.logs (a % w.text.logs) logs f.front f.rest f.it (mod-lt a some) f.splits)
