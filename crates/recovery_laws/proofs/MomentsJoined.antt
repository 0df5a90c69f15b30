-- From the laws of the machine to what recovery asks of logs.
use Rattle.std.specs.Prelude.{◌≡◌, refl, ℕ, zero, suc, ◌+◌, ◌<◌, ◌≤◌, ◌==◌, ◌&&◌, Bool, true, false, if◌then◌else◌, Some, List, [], ◌∷◌, ◌++◌, length, map, filter, take, slice_index_or}
use Rattle.std.specs.List.{AllByRecursion}
use Rattle.std.proofs.Common.{arith, sym, ap, subst, ◌∙◌}
use Rattle.std.proofs.lemmas.Bool.{eqb-true}
use Rattle.snap_base.specs.declared.transactions.State.{State}
use Rattle.snap_base.proofs.Options.{some_mapped}
use Rattle.snap_base.proofs.Lists.{weaker}
use Rattle.protocol.specs.Facts.{Alone, state_in}
use Rattle.protocol.specs.Fixed.{Fixed, IsText}
use Rattle.protocol.specs.Numbers.{NumbersDrawnOnce}
use Rattle.protocol.specs.Standing.{PairsStand}
use Rattle.protocol.specs.Records as machine
use Rattle.protocol.specs.Records.{LogRecord}
use Rattle.protocol.specs.Parts.{Act, Batch, Declared, Joined, Pact, Log, Machine}
use Rattle.protocol.specs.Events.{Event}
use Rattle.protocol.specs.Words.{count, holds, is_formed, is_among, is_value, act_of, batch_of}
use Rattle.protocol.specs.Effects.{after, log_at, no_log}
use Rattle.protocol.specs.Runs.{EachAllowed, IsRun, opening}
use Rattle.protocol.specs.Moments.{Moment, left_in}
use Rattle.protocol.specs.History.{History}
use Rattle.protocol_records.specs.Crash.{recovered_state, CrashHolds}
use Rattle.protocol_laws.proofs.Lemmas.{all_take}
use Rattle.protocol_laws.specs.Ranges.{IsWithin, BatchInRange, ActInRange, NumbersInRange}
use Rattle.protocol_laws.proofs.machine.TurnsKept.{one_is}
use Rattle.protocol_records.specs.RecordLaws.{has_key, all_records, batch_actors, batch_pact_tids, act_actors, TellsOf, RecordsTell, RecordsAddedOnce}
use Rattle.txn_records.specs.declared.records.Record.{Record}
use Rattle.snap_recover.specs.declared.openings.Opening.{Opening}
use Rattle.snap_recover.specs.declared.ranges.TheConstants.{GREATEST_NUMBER}
use Rattle.snap_recover.specs.Opening.{IsInRange, IsRecovered}
use Rattle.log_set.specs.Told.{told, all_told}
use Rattle.recovery_laws.specs.Grown.{BeginsFrom}
use Rattle.protocol_records.specs.SeveralRuns.{recovered_from}
use Rattle.protocol_theorems.specs.Sizes.{SizesHold}
use Rattle.protocol_theorems.proofs.quiet.SubPlaces.{count_join}
use Rattle.protocol_theorems.proofs.sets.AfterSets.{among_all}
use Rattle.recovery_laws.proofs.WrittenLists.{same_tids, same_actors, batch_bids, act_tids}
use Rattle.recovery_laws.proofs.KnownLogs.{Known}
use Rattle.protocol_records.specs.NextNumbers.{ActsDrawn}
use Rattle.protocol_records.proofs.crash.CrashWhole.{all_ascending}
use Rattle.recovery_laws.proofs.ActsApart.{acts_apart}

-- ---- runs

pub front_allowed : {C : Type 0} (w : Fixed C) (xs ys : List Event) (s : Machine C) → EachAllowed w (xs ++ ys) s → EachAllowed w xs s
front_allowed w [] ys s h = tt
front_allowed w (x ∷ xs) ys s h = (h.0, front_allowed w xs ys (after w x s) h.1)

pub front_runs : {C : Type 0} (w : Fixed C) (es : List Event) (m : Moment w es) → IsRun w es → IsRun w m.events
front_runs w es m run = front_allowed w m.events m.later (opening w) (subst (λ z. IsRun w z) m.splits run)

-- ---- what is left of a log

count_take : {X : Type 0} (p : X → Bool) (n : ℕ) (xs : List X) → count p (take n xs) ≤ count p xs
count_take p zero xs = omega arith
count_take p (suc n) [] = omega arith
count_take p (suc n) (x ∷ xs) = by (p x) (count_take p n xs)
  where
    by : (b : Bool) → length (filter p (take n xs)) ≤ length (filter p xs) → length (if b then x ∷ filter p (take n xs) else filter p (take n xs)) ≤ length (if b then x ∷ filter p xs else filter p xs)
    by true k = omega (arith, k)
    by false k = k

count_log : (p : LogRecord → Bool) (logs : List Log) (l : ℕ) → count p (slice_index_or logs l no_log).records ≤ count p (all_records logs)
count_log p [] l = omega arith
count_log p (x ∷ xs) zero = omega (arith, count_join p x.records (all_records xs))
count_log p (x ∷ xs) (suc l) = omega (arith, count_join p x.records (all_records xs), count_log p xs l)

-- ---- numbers of records

-- no number that was drawn is above the greatest
record HaveRoom {C : Type 0} (s : Machine C) : Type 0 where
  tids : s.ring.next_tid ≤ GREATEST_NUMBER + 1
  bids : s.ring.next_bid ≤ GREATEST_NUMBER + 1
  cs : s.book.next_c ≤ GREATEST_NUMBER + 1

found_all : (P : Batch → Type 0) (k : ℕ) (b : Batch) (bs : List Batch) → AllByRecursion P bs → batch_of k bs ≡ Some b → P b × (b.bid ≡ k)
found_all P k b [] h e = absurd (cc e)
found_all P k b (x ∷ xs) h e = by (x.bid == k) refl e (found_all P k b xs h.1)
  where
    by : (v : Bool) → (x.bid == k) ≡ v → (if v then Some x else batch_of k xs) ≡ Some b → (batch_of k xs ≡ Some b → P b × (b.bid ≡ k)) → P b × (b.bid ≡ k)
    by true q e r = let i : x ≡ b = cc e in subst (λ z. P z × (z.bid ≡ k)) i (h.0, eqb-true x.bid k q)
    by false q e r = r e

actors_below : (n : ℕ) (ps : List Declared) → AllByRecursion (λ p. p.actor < n) ps → AllByRecursion (λ a. a < n) (map (λ p. p.actor) ps)
actors_below n [] h = tt
actors_below n (p ∷ ps) h = (h.0, actors_below n ps h.1)

tids_below : (low high : ℕ) (ps : List Pact) → high ≤ GREATEST_NUMBER + 1 → AllByRecursion (λ p. IsWithin low high p.tid) ps → AllByRecursion (λ n. n ≤ GREATEST_NUMBER) (map (λ p. p.tid) ps)
tids_below low high [] l h = tt
tids_below low high (p ∷ ps) l h = (omega (arith, h.0.below, l), tids_below low high ps l h.1)

joined_below : (n : ℕ) (ps : List Joined) → AllByRecursion (λ p. p.actor < n) ps → AllByRecursion (λ a. a < n) (map (λ p. p.actor) ps)
joined_below n [] h = tt
joined_below n (p ∷ ps) h = (h.0, joined_below n ps h.1)

act_found : (P : Act → Type 0) (t : ℕ) (x : Act) (xs : List Act) → AllByRecursion P xs → act_of t xs ≡ Some x → P x × (x.tid ≡ t)
act_found P t x [] h e = absurd (cc e)
act_found P t x (y ∷ ys) h e = by (y.tid == t) refl e (act_found P t x ys h.1)
  where
    by : (v : Bool) → (y.tid == t) ≡ v → (if v then Some y else act_of t ys) ≡ Some x → (act_of t ys ≡ Some x → P x × (x.tid ≡ t)) → P x × (x.tid ≡ t)
    by true q e r = let i : y ≡ x = cc e in subst (λ z. P z × (z.tid ≡ t)) i (h.0, eqb-true y.tid t q)
    by false q e r = r e

-- where an ACT stands that is prepared
prepared_of : {C : Type 0} (w : Fixed C) (s : Machine C) (u a : ℕ) → NumbersInRange w s → holds (λ x. is_value x.result && is_among a (act_actors x)) (act_of u s.book.acts) ≡ true → (x : Act) × IsWithin w.text.opening.next_tid s.ring.next_tid u × (a < length w.text.opening.states)
prepared_of w s u a n t =
    let x = one_is (λ x. is_value x.result && is_among a (act_actors x)) (act_of u s.book.acts) t in
    let g = act_found (ActInRange w s) u x.0 s.book.acts n.acts x.1 in
    let v = Rattle.std.proofs.lemmas.Bool.and_parts (is_value x.0.result) (is_among a (act_actors x.0)) x.2 in
    (x.0, subst (IsWithin w.text.opening.next_tid s.ring.next_tid) g.1 g.0.tid, among_all (λ a. a < length w.text.opening.states) a (act_actors x.0) v.1 (joined_below (length w.text.opening.states) x.0.places g.0.actors))

record_low : {C : Type 0} (w : Fixed C) (s : Machine C) (r : LogRecord) → NumbersInRange w s → TellsOf s.desk.batches s.book.acts r → AllByRecursion (λ n. w.text.opening.next_bid ≤ n) (batch_bids r)
record_low w s (machine.BatchInfo k actors tids) n t = let b = some_mapped batch_actors (batch_of k s.desk.batches) actors t.0 in let g = found_all (BatchInRange w s) k b.0 s.desk.batches n.batches b.1 in (subst (λ z. w.text.opening.next_bid ≤ z) g.1 g.0.bid.reached, tt)
record_low w s (machine.BatchComplete k a st) n t = let b = one_is (λ b. is_among a (batch_actors b)) (batch_of k s.desk.batches) t in let g = found_all (BatchInRange w s) k b.0 s.desk.batches n.batches b.1 in (subst (λ z. w.text.opening.next_bid ≤ z) g.1 g.0.bid.reached, tt)
record_low w s (machine.BatchDone k vs) n t = let b = one_is (λ b. Rattle.std.specs.Prelude.not (is_formed b.stage)) (batch_of k s.desk.batches) t.0 in let g = found_all (BatchInRange w s) k b.0 s.desk.batches n.batches b.1 in (subst (λ z. w.text.opening.next_bid ≤ z) g.1 g.0.bid.reached, tt)
record_low w s (machine.ActPrepare u a st) n t = tt
record_low w s (machine.ActDone u m c v actors) n t = tt

act_record_low : {C : Type 0} (w : Fixed C) (s : Machine C) (r : LogRecord) → NumbersInRange w s → TellsOf s.desk.batches s.book.acts r → AllByRecursion (λ n. w.text.opening.next_tid ≤ n) (act_tids r)
act_record_low w s (machine.BatchInfo k actors tids) n t = tt
act_record_low w s (machine.BatchComplete k a st) n t = tt
act_record_low w s (machine.BatchDone k vs) n t = tt
act_record_low w s (machine.ActPrepare u a st) n t = ((prepared_of w s u a n t).1.reached, tt)
act_record_low w s (machine.ActDone u m c v actors) n t = let g = act_found (ActInRange w s) u t.act s.book.acts n.acts t.found in (subst (λ z. w.text.opening.next_tid ≤ z) g.1 g.0.tid.reached, tt)

bid_fits : (low high k : ℕ) (b : Batch) → high ≤ GREATEST_NUMBER + 1 → IsWithin low high b.bid → b.bid ≡ k → k ≤ GREATEST_NUMBER
bid_fits low high k b l h e = omega (arith, h.below, l, e)

record_range : {C : Type 0} (w : Fixed C) (s : Machine C) (r : LogRecord) → NumbersInRange w s → ActsDrawn w s → HaveRoom s → TellsOf s.desk.batches s.book.acts r → IsInRange (length w.text.opening.states) (told r)
record_range w s (machine.BatchInfo k actors tids) n d f t =
    let b = some_mapped batch_actors (batch_of k s.desk.batches) actors t.0 in
    let c = some_mapped batch_pact_tids (batch_of k s.desk.batches) tids t.1 in
    let g = found_all (BatchInRange w s) k b.0 s.desk.batches n.batches b.1 in
    let h = found_all (BatchInRange w s) k c.0 s.desk.batches n.batches c.1 in
    record {
      actors_below = subst (AllByRecursion (λ a. a < length w.text.opening.states)) (sym (same_actors actors)) (subst (AllByRecursion (λ a. a < length w.text.opening.states)) b.2 (actors_below (length w.text.opening.states) b.0.places g.0.actors));
      numbers_below = (bid_fits w.text.opening.next_bid s.ring.next_bid k b.0 f.bids g.0.bid g.1, subst (AllByRecursion (λ m. m ≤ GREATEST_NUMBER)) (sym (same_tids tids)) (subst (AllByRecursion (λ m. m ≤ GREATEST_NUMBER)) c.2 (tids_below w.text.opening.next_tid s.ring.next_tid c.0.pacts f.tids h.0.tids)));
    }
record_range w s (machine.BatchComplete k a st) n d f t =
    let b = one_is (λ b. is_among a (batch_actors b)) (batch_of k s.desk.batches) t in
    let g = found_all (BatchInRange w s) k b.0 s.desk.batches n.batches b.1 in
    record {
      actors_below = (among_all (λ a. a < length w.text.opening.states) a (batch_actors b.0) b.2 (actors_below (length w.text.opening.states) b.0.places g.0.actors), tt);
      numbers_below = (bid_fits w.text.opening.next_bid s.ring.next_bid k b.0 f.bids g.0.bid g.1, tt);
    }
record_range w s (machine.BatchDone k vs) n d f t =
    let b = one_is (λ b. Rattle.std.specs.Prelude.not (is_formed b.stage)) (batch_of k s.desk.batches) t.0 in
    let g = found_all (BatchInRange w s) k b.0 s.desk.batches n.batches b.1 in
    record { actors_below = tt; numbers_below = (bid_fits w.text.opening.next_bid s.ring.next_bid k b.0 f.bids g.0.bid g.1, tt) }
record_range w s (machine.ActPrepare u a st) n d f t =
    let x = prepared_of w s u a n t in
    record { actors_below = (x.2, tt); numbers_below = (omega (arith, x.1.below, f.tids), tt) }
record_range w s (machine.ActDone u m c v actors) n d f t =
    let g = act_found (ActInRange w s) u t.act s.book.acts n.acts t.found in
    let k = d u t.act t.found c t.c_is in
    record {
      actors_below = subst (AllByRecursion (λ a. a < length w.text.opening.states)) (sym (same_actors actors)) (subst (AllByRecursion (λ a. a < length w.text.opening.states)) t.actors_are (all_ascending (λ a. a < length w.text.opening.states) (act_actors t.act) (joined_below (length w.text.opening.states) t.act.places g.0.actors)));
      numbers_below = (omega (arith, k.behind, t.m_is, f.bids), (omega (arith, k.below, f.cs), (omega (arith, g.0.tid.below, g.1, f.tids), tt)));
    }

all_range : {C : Type 0} (w : Fixed C) (s : Machine C) (rs : List LogRecord) → NumbersInRange w s → ActsDrawn w s → HaveRoom s → AllByRecursion (TellsOf s.desk.batches s.book.acts) rs → AllByRecursion (IsInRange (length w.text.opening.states)) (all_told rs)
all_range w s [] n d f t = tt
all_range w s (r ∷ rs) n d f t = (record_range w s r n d f t.0, all_range w s rs n d f t.1)

-- ---- all of it

pub known : {C : Type 0} (w : Fixed C) (finish : C → List State → Alone) (es : List Event) (earlier : List (List Record)) (o : Opening) (s : Machine C) (h : History) (kept : ℕ → ℕ) → IsText w.text → length earlier ≡ w.text.logs → IsRecovered earlier o → BeginsFrom w.text o
    → CrashHolds w finish es s h (left_in s kept) → RecordsAddedOnce w finish s h → RecordsTell w finish s h → NumbersInRange w s → NumbersDrawnOnce w s → PairsStand w s → SizesHold w s → ActsDrawn w s → Known w earlier o s (left_in s kept)
known w finish es earlier o s h kept t many before begins c once tells range drawn pairs sizes acts =
    let room : HaveRoom s = record { tids = omega (arith, t.tids_fit, t.few_txs, sizes.next_tid, sizes.next_tx); bids = omega (arith, t.bids_fit, t.few_txs, sizes.next_bid, sizes.next_tx); cs = omega (arith, t.cs_fit, t.few_txs, sizes.next_c, sizes.next_tx) } in
    let left : (l : ℕ) → AllByRecursion (TellsOf s.desk.batches s.book.acts) (left_in s kept l) = λ l. all_take (TellsOf s.desk.batches s.book.acts) (kept l) (log_at s l).records (tells l) in
    record {
      many = many;
      some = t.some_logs;
      before = before;
      begins = begins;
      some_bid = t.bids;
      whole = c.whole_batches;
      whole_acts = c.whole_acts;
      tells = left;
      once = λ k l. omega (arith, count_take (has_key k) (kept l) (log_at s l).records, count_log (has_key k) s.logs l, once.once k);
      low = λ l. weaker (TellsOf s.desk.batches s.book.acts) (λ r. AllByRecursion (λ n. w.text.opening.next_bid ≤ n) (batch_bids r)) (left_in s kept l) (λ r p. record_low w s r range p) (left l);
      low_acts = λ l. weaker (TellsOf s.desk.batches s.book.acts) (λ r. AllByRecursion (λ n. w.text.opening.next_tid ≤ n) (act_tids r)) (left_in s kept l) (λ r p. act_record_low w s r range p) (left l);
      range = λ l. all_range w s (left_in s kept l) range acts room (left l);
      bids = drawn.bids;
      apart = acts_apart w s drawn;
      based = pairs.based;
      numbered = λ t x e c q. (acts t x e c q).reached;
    }

pub state_recovered : (many : ℕ) (logs : ℕ → List LogRecord) (n a : ℕ) (states : List State) → a < length states → state_in (recovered_from many logs n states) a ≡ recovered_state many logs (n + a) (state_in states a)
state_recovered many logs n a [] l = absurd (omega (arith, l))
state_recovered many logs n zero (s ∷ ss) l = let e : n ≡ n + 0 = omega arith in ap (λ z. recovered_state many logs z s) e
state_recovered many logs n (suc a) (s ∷ ss) l = let e : n + 1 + a ≡ n + suc a = omega arith in state_recovered many logs (n + 1) a ss (omega (arith, l)) ∙ ap (λ z. recovered_state many logs z (state_in ss a)) e
