-- The next numbers are above those of all members, and not above those that come next.
use Rattle.std.specs.Prelude.{◌≡◌, refl, ℕ, zero, suc, ◌+◌, ◌-◌, ◌%◌, ◌<◌, ◌≤◌, ◌==◌, max, not, Bool, true, false, ◌&&◌, Some, List, [], ◌∷◌, ◌++◌, length, map, filter, take}
use Rattle.std.specs.List.{AllByRecursion, flat_map}
use Rattle.std.proofs.Common.{arith, sym, ap, subst, mod-lt, ◌∙◌}
use Rattle.std.proofs.lemmas.Bool.{true≢false, and_parts, eqb-true}
use Rattle.snap_base.specs.declared.transactions.Tx.{Tx}
use Rattle.snap_base.specs.declared.transactions.State.{State}
use Rattle.snap_base.proofs.Options.{some_mapped}
use Rattle.protocol.specs.Facts.{Alone}
use Rattle.protocol.specs.Fixed.{Fixed, IsText}
use Rattle.protocol.specs.Records.{LogRecord, BatchInfo, BatchComplete, BatchDone, ActPrepare, ActDone}
use Rattle.protocol.specs.Rests.{IsRest, IsTxIn}
use Rattle.protocol.specs.Parts.{Act, Batch, Pact, Who, OfBatch, OfAct, Machine}
use Rattle.protocol.specs.Events.{Event}
use Rattle.protocol.specs.Words.{greatest, below, is_among, is_value, is_formed, act_of, batch_of}
use Rattle.protocol.specs.Effects.{log_at}
use Rattle.protocol.specs.Runs.{opening, IsRun, reached}
use Rattle.protocol.specs.Moments.{left_in}
use Rattle.protocol.specs.History.{Done, History, no_history, history}
use Rattle.protocol_records.specs.Crash.{AtEveryMoment, is_in, tids_in, bids_in, cs_in, BatchIsWhole, ActIsWhole}
use Rattle.protocol_laws.specs.Told.{has_number, DoneFrom, IsDonePact, PactFrom}
use Rattle.protocol_laws.specs.Marks.{Known}
use Rattle.protocol_laws.specs.Ranges.{IsWithin, BatchInRange, ActInRange, NumbersInRange}
use Rattle.protocol_records.specs.RecordLaws.{batch_actors, batch_pact_tids, act_actors, TellsOf}
use Rattle.protocol_records.specs.NextNumbers.{numbers_in, next_number, next_tid_of, next_bid_of, next_c_of, IsPlaceWithin, IsNumberedWithin, NextNumbersStand}
use Rattle.protocol_laws.proofs.first.Along.{along}
use Rattle.protocol_laws.proofs.first.Lists.{all_join, all_front, all_back, all_mid, all_take, all_found, weaker}
use Rattle.protocol_laws.proofs.first.OneWay.{tid_went, bid_went}
use Rattle.protocol_laws.proofs.first.PairsFound.{pairs_stand}
use Rattle.protocol_laws.proofs.first.Ranges.{numbers_in_range}
use Rattle.protocol_laws.proofs.first.SettlingKept as settling
use Rattle.protocol_laws.proofs.machine.ActsKept.{Acts}
use Rattle.protocol_laws.proofs.machine.ActsTold.{AllFrom, at_placed}
use Rattle.protocol_laws.proofs.machine.TurnsKept.{one_is}
use Rattle.protocol_laws.proofs.machine.QuietTold.{PactsFrom}
use Rattle.protocol_laws.proofs.machine.Good.{Given}
use Rattle.protocol_laws.proofs.machine.AllGood.{all_good, none_allowed}
use Rattle.protocol_records.proofs.crash.CrashImplied.{front_runs}
use Rattle.protocol_records.proofs.crash.CrashImplied.{moment_is_cut}
use Rattle.protocol_records.proofs.crash.CrashParts.{logs_hold}
use Rattle.protocol_records.proofs.crash.CrashWhole.{whole_batch, whole_act}
use Rattle.protocol_records.proofs.recording.RecordsHold.{tells_of}
use Rattle.protocol_records.proofs.recording.NumbersDrawn.{Numbers, commits_drawn, settled_below, of_pact, of_act, any_pact}
use Rattle.protocol_laws.proofs.first.EpochsKept.{greatest_less}

-- ---- numbers in lists

below_next : (ns : List ℕ) → AllByRecursion (λ n. n < greatest ns + 1) ns
below_next [] = tt
below_next (n ∷ ns) = (omega arith, weaker (λ m. m < greatest ns + 1) (λ m. m < max n (greatest ns) + 1) ns (λ m l. omega (arith, l)) (below_next ns))

all_flat : {X Y : Type 0} (P : Y → Type 0) (f : X → List Y) (xs : List X) → AllByRecursion (λ x. AllByRecursion P (f x)) xs → AllByRecursion P (flat_map f xs)
all_flat P f [] h = tt
all_flat P f (x ∷ xs) h = all_join P (f x) (flat_map f xs) h.0 (all_flat P f xs h.1)

of_flat : {X Y : Type 0} (P : Y → Type 0) (f : X → List Y) (xs : List X) → AllByRecursion P (flat_map f xs) → AllByRecursion (λ x. AllByRecursion P (f x)) xs
of_flat P f [] h = tt
of_flat P f (x ∷ xs) h = (all_front P (f x) (flat_map f xs) h, of_flat P f xs (all_back P (f x) (flat_map f xs) h))

all_below : (P : ℕ → Type 0) (n : ℕ) → ((i : ℕ) → i < n → P i) → AllByRecursion P (below n)
all_below P zero k = tt
all_below P (suc n) k = all_join P (below n) (n ∷ []) (all_below P n (λ i l. k i (omega (arith, l)))) (k n (omega arith), tt)

at_below : (P : ℕ → Type 0) (n i : ℕ) → AllByRecursion P (below n) → i < n → P i
at_below P zero i h l = absurd (omega (arith, l))
at_below P (suc n) i h l = by (Rattle.std.specs.Prelude.nat_lt i n) refl (at_below P n i (all_front P (below n) (n ∷ []) h))
  where
    by : (b : Bool) → Rattle.std.specs.Prelude.nat_lt i n ≡ b → (i < n → P i) → P i
    by true e r = r (Rattle.std.proofs.lemmas.Bool.ltb-true i n e)
    by false e r = let j : n ≡ i = omega (arith, l, Rattle.std.proofs.lemmas.Bool.ltb-false i n e) in subst P j (all_back P (below n) (n ∷ []) h).0

-- what a record names is below the next number
is_below : (numbers : LogRecord → List ℕ) (first many l : ℕ) (logs : ℕ → List LogRecord) (front rest : List LogRecord) (r : LogRecord) → l < many → logs l ≡ front ++ r ∷ rest → AllByRecursion (λ n. n < next_number numbers first many logs) (numbers r)
is_below numbers first many l logs front rest r m e =
    let P : ℕ → Type 0 = λ n. n < next_number numbers first many logs in
    let all : AllByRecursion P (numbers_in numbers many logs) = weaker (λ n. n < greatest (numbers_in numbers many logs) + 1) P (numbers_in numbers many logs) (λ n k. omega (arith, k)) (below_next (numbers_in numbers many logs)) in
    let here : AllByRecursion P (flat_map numbers (logs l)) = at_below (λ i. AllByRecursion P (flat_map numbers (logs i))) many l (of_flat P (λ i. flat_map numbers (logs i)) (below many) all) m in
    all_mid (λ x. AllByRecursion P (numbers x)) r front rest (of_flat P numbers (front ++ r ∷ rest) (subst (λ z. AllByRecursion P (flat_map numbers z)) e here))

is_drawn : (numbers : LogRecord → List ℕ) (first many high : ℕ) (logs : ℕ → List LogRecord) → 1 ≤ first → first ≤ high → ((l : ℕ) → AllByRecursion (λ r. AllByRecursion (λ n. n < high) (numbers r)) (logs l)) → next_number numbers first many logs ≤ high
is_drawn numbers first many high logs one l h =
    let g = greatest_less high (numbers_in numbers many logs) (omega (arith, one, l)) (all_flat (λ n. n < high) (λ i. flat_map numbers (logs i)) (below many) (all_below (λ i. AllByRecursion (λ n. n < high) (flat_map numbers (logs i))) many (λ i k. all_flat (λ n. n < high) numbers (logs i) (h i)))) in
    omega (arith, l, g)

-- ---- what records name was drawn

tids_all : (low high : ℕ) (ps : List Pact) → AllByRecursion (λ p. IsWithin low high p.tid) ps → AllByRecursion (λ n. n < high) (map (λ p. p.tid) ps)
tids_all low high [] h = tt
tids_all low high (p ∷ ps) h = (h.0.below, tids_all low high ps h.1)

batch_drawn : {C : Type 0} (w : Fixed C) (s : Machine C) (k : ℕ) (b : Batch) → NumbersInRange w s → batch_of k s.desk.batches ≡ Some b → k < s.ring.next_bid
batch_drawn w s k b r e = let g = all_found (BatchInRange w s) (λ b. b.bid == k) s.desk.batches b r.batches e in subst (λ z. z < s.ring.next_bid) (eqb-true b.bid k g.1) g.0.bid.below

act_drawn : {C : Type 0} (w : Fixed C) (s : Machine C) (t : ℕ) (x : Act) → NumbersInRange w s → act_of t s.book.acts ≡ Some x → t < s.ring.next_tid
act_drawn w s t x r e = let g = all_found (ActInRange w s) (λ x. x.tid == t) s.book.acts x r.acts e in subst (λ z. z < s.ring.next_tid) (eqb-true x.tid t g.1) g.0.tid.below

tids_drawn : {C : Type 0} (w : Fixed C) (s : Machine C) (r : LogRecord) → Numbers w s → TellsOf s.desk.batches s.book.acts r → AllByRecursion (λ n. n < s.ring.next_tid) (tids_in r)
tids_drawn w s (BatchInfo k actors tids) n t =
    let b = some_mapped batch_pact_tids (batch_of k s.desk.batches) tids t.1 in
    let g = all_found (BatchInRange w s) (λ b. b.bid == k) s.desk.batches b.0 n.range.batches b.1 in
    subst (AllByRecursion (λ n. n < s.ring.next_tid)) b.2 (tids_all w.text.opening.next_tid s.ring.next_tid b.0.pacts g.0.tids)
tids_drawn w s (BatchComplete k a st) n t = tt
tids_drawn w s (BatchDone k vs) n t = tt
tids_drawn w s (ActPrepare u a st) n t = let x = one_is (λ x. is_value x.result && is_among a (act_actors x)) (act_of u s.book.acts) t in (act_drawn w s u x.0 n.range x.1, tt)
tids_drawn w s (ActDone u m c v actors) n t = (act_drawn w s u t.act n.range t.found, tt)

bids_drawn : {C : Type 0} (w : Fixed C) (s : Machine C) (h : History) (r : LogRecord) → Numbers w s → Acts s h → TellsOf s.desk.batches s.book.acts r → AllByRecursion (λ n. n < s.ring.next_bid) (bids_in r)
unfolding Acts
bids_drawn w s h (BatchInfo k actors tids) n ac t = let b = some_mapped batch_pact_tids (batch_of k s.desk.batches) tids t.1 in (batch_drawn w s k b.0 n.range b.1, tt)
bids_drawn w s h (BatchComplete k a st) n ac t = let b = one_is (λ b. is_among a (batch_actors b)) (batch_of k s.desk.batches) t in (batch_drawn w s k b.0 n.range b.1, tt)
bids_drawn w s h (BatchDone k vs) n ac t = let b = one_is (λ b. not (is_formed b.stage)) (batch_of k s.desk.batches) t.0 in (batch_drawn w s k b.0 n.range b.1, tt)
bids_drawn w s h (ActPrepare u a st) n ac t = tt
bids_drawn w s h (ActDone u m c v actors) n ac t =
    let l = (ac u t.act t.found).settles (at_placed c t.act.status t.c_is) in
    (omega (arith, l, t.m_is, n.settled), tt)

cs_drawn : {C : Type 0} (w : Fixed C) (s : Machine C) (r : LogRecord) → Numbers w s → TellsOf s.desk.batches s.book.acts r → AllByRecursion (λ n. n < s.book.next_c) (cs_in r)
cs_drawn w s (BatchInfo k actors tids) n t = tt
cs_drawn w s (BatchComplete k a st) n t = tt
cs_drawn w s (BatchDone k vs) n t = tt
cs_drawn w s (ActPrepare u a st) n t = tt
cs_drawn w s (ActDone u m c v actors) n t = ((n.commits.each u t.act t.found c t.c_is).below, tt)

-- ---- members

among_all : (P : ℕ → Type 0) (f : Pact → ℕ) (ps : List Pact) → AllByRecursion P (map f ps) → AllByRecursion (λ p. P (f p)) ps
among_all P f [] h = tt
among_all P f (p ∷ ps) h = (h.0, among_all P f ps h.1)

record Found {C : Type 0} (w : Fixed C) (finish : C → List State → Alone) (s : Machine C) (h : History) (logs : ℕ → List LogRecord) : Type 0 where
  tells : (l : ℕ) → AllByRecursion (TellsOf s.desk.batches s.book.acts) (logs l)
  whole_batches : (k : ℕ) → is_in w.text.logs logs (OfBatch k) ≡ true → BatchIsWhole w.text.logs logs k
  whole_acts : (t : ℕ) → is_in w.text.logs logs (OfAct t) ≡ true → ActIsWhole w.text.logs logs t

member_pact : {C : Type 0} (w : Fixed C) (finish : C → List State → Alone) (s : Machine C) (h : History) (logs : ℕ → List LogRecord) (k : ℕ) (d : Done) → 1 ≤ w.text.logs → Numbers w s → Known s h → Found w finish s h logs → PactFrom s.desk.batches h.kept k d → d.who ≡ OfBatch k → is_in w.text.logs logs (OfBatch k) ≡ true
    → IsNumberedWithin w (next_tid_of w logs) (next_bid_of w logs) (next_c_of w logs) d
unfolding Known
member_pact w finish s h logs k d some n kn f p i e =
    let old = of_pact w s h k d n kn p i in
    let q = f.whole_batches k e in
    let t = all_mid (TellsOf s.desk.batches s.book.acts) (BatchInfo k q.actors q.tids) q.front q.rest (subst (AllByRecursion (TellsOf s.desk.batches s.book.acts)) q.info (f.tells (k % w.text.logs))) in
    let b = some_mapped batch_pact_tids (batch_of k s.desk.batches) q.tids t.1 in
    let tids = is_below tids_in w.text.opening.next_tid w.text.logs (k % w.text.logs) logs q.front q.rest (BatchInfo k q.actors q.tids) (mod-lt k some) q.info in
    let bids = is_below bids_in w.text.opening.next_bid w.text.logs (k % w.text.logs) logs q.front q.rest (BatchInfo k q.actors q.tids) (mod-lt k some) q.info in
    let place = subst (λ z. IsPlaceWithin w s.ring.next_bid s.book.next_c z d.place) i old.place in
    record {
      tid = record { reached = old.tid.reached; below = any_pact (λ p. p.tid < next_tid_of w logs) (IsDonePact k d) (d.tid < next_tid_of w logs) b.0.pacts (among_all (λ n. n < next_tid_of w logs) (λ p. p.tid) b.0.pacts (subst (AllByRecursion (λ n. n < next_tid_of w logs)) (sym b.2) tids)) (p.is_it k b.0 b.1 refl) (λ x l y. subst (λ z. z < next_tid_of w logs) (sym y.tid) l) };
      place = subst (λ z. IsPlaceWithin w (next_bid_of w logs) (next_c_of w logs) z d.place) (sym i) (place.0, place.1, record { reached = place.2.reached; below = bids.0 });
    }

same_c : (c d : ℕ) (st : Rattle.protocol.specs.Parts.Status) → has_number c st ≡ true → has_number d st ≡ true → c ≡ d
same_c c d Rattle.protocol.specs.Parts.Live e f = absurd (true≢false (sym e))
same_c c d (Rattle.protocol.specs.Parts.Doomed v) e f = absurd (true≢false (sym e))
same_c c d (Rattle.protocol.specs.Parts.Decided x) e f = sym (eqb-true x c e) ∙ eqb-true x d f
same_c c d (Rattle.protocol.specs.Parts.Sealed x) e f = sym (eqb-true x c e) ∙ eqb-true x d f

member_act : {C : Type 0} (w : Fixed C) (finish : C → List State → Alone) (s : Machine C) (h : History) (logs : ℕ → List LogRecord) (t : ℕ) (d : Done) → 1 ≤ w.text.logs → Numbers w s → Acts s h → Found w finish s h logs → DoneFrom s.book.acts t d → d.who ≡ OfAct t → is_in w.text.logs logs (OfAct t) ≡ true
    → IsNumberedWithin w (next_tid_of w logs) (next_bid_of w logs) (next_c_of w logs) d
member_act w finish s h logs t d some n ac f p i e =
    let old = of_act w s h t d n ac p i in
    let q = f.whole_acts t e in
    let r = ActDone t q.m q.c q.v q.actors in
    let y = all_mid (TellsOf s.desk.batches s.book.acts) r q.front q.rest (subst (AllByRecursion (TellsOf s.desk.batches s.book.acts)) q.commit (f.tells (t % w.text.logs))) in
    let x = p.is_it t y.act y.found refl in
    let tids = is_below tids_in w.text.opening.next_tid w.text.logs (t % w.text.logs) logs q.front q.rest r (mod-lt t some) q.commit in
    let bids = is_below bids_in w.text.opening.next_bid w.text.logs (t % w.text.logs) logs q.front q.rest r (mod-lt t some) q.commit in
    let cs = is_below cs_in w.text.opening.next_c w.text.logs (t % w.text.logs) logs q.front q.rest r (mod-lt t some) q.commit in
    let place = subst (λ z. IsPlaceWithin w s.ring.next_bid s.book.next_c z d.place) i old.place in
    let m : d.place.batch.0 ≡ q.m = ap (λ z. z.batch.0) x.place ∙ y.m_is in
    let c : d.place.order ≡ q.c = ap (λ z. z.order) x.place ∙ sym (same_c q.c x.c y.act.status y.c_is x.at) in
    let tid : d.tid ≡ t = x.tid ∙ Rattle.protocol_laws.proofs.machine.ActsFound.found_tid t y.act s.book.acts y.found in
    record {
      tid = record { reached = old.tid.reached; below = subst (λ z. z < next_tid_of w logs) (sym tid) tids.0 };
      place = subst (λ z. IsPlaceWithin w (next_bid_of w logs) (next_c_of w logs) z d.place) (sym i) (place.0, record { reached = place.1.reached; below = subst (λ z. z < next_bid_of w logs) (sym m) bids.0 }, record { reached = place.2.reached; below = subst (λ z. z < next_c_of w logs) (sym c) cs.0 });
    }

all_members : {C : Type 0} (w : Fixed C) (finish : C → List State → Alone) (s : Machine C) (h : History) (logs : ℕ → List LogRecord) (ds : List Done) → 1 ≤ w.text.logs → Numbers w s → Known s h → Acts s h → Found w finish s h logs
    → AllByRecursion (λ d. (k : ℕ) → d.who ≡ OfBatch k → PactFrom s.desk.batches h.kept k d) ds → AllByRecursion (λ d. (t : ℕ) → d.who ≡ OfAct t → DoneFrom s.book.acts t d) ds
    → AllByRecursion (IsNumberedWithin w (next_tid_of w logs) (next_bid_of w logs) (next_c_of w logs)) (filter (λ d. is_in w.text.logs logs d.who && is_value d.result) ds)
all_members w finish s h logs [] some n kn ac f p q = tt
all_members {C} w finish s h logs (d ∷ ds) some n kn ac f p q = by (is_in w.text.logs logs d.who && is_value d.result) refl (all_members w finish s h logs ds some n kn ac f p.1 q.1)
  where
    one : (who : Who) → d.who ≡ who → is_in w.text.logs logs who ≡ true → IsNumberedWithin w (next_tid_of w logs) (next_bid_of w logs) (next_c_of w logs) d
    one (OfBatch k) i e = member_pact w finish s h logs k d some n kn f (p.0 k i) i e
    one (OfAct t) i e = member_act w finish s h logs t d some n ac f (q.0 t i) i e

    by : (v : Bool) → (is_in w.text.logs logs d.who && is_value d.result) ≡ v → AllByRecursion (IsNumberedWithin w (next_tid_of w logs) (next_bid_of w logs) (next_c_of w logs)) (filter (λ d. is_in w.text.logs logs d.who && is_value d.result) ds)
        → AllByRecursion (IsNumberedWithin w (next_tid_of w logs) (next_bid_of w logs) (next_c_of w logs)) (Rattle.std.specs.Prelude.if◌then◌else◌ v (d ∷ filter (λ d. is_in w.text.logs logs d.who && is_value d.result) ds) (filter (λ d. is_in w.text.logs logs d.who && is_value d.result) ds))
    by true e r = (one d.who refl (and_parts (is_in w.text.logs logs d.who) (is_value d.result) e).0, r)
    by false e r = r

-- ---- all of it

pub numbers_hold : {C : Type 0} (w : Fixed C) (Of : Tx → C → Type 0) (finish : C → List State → Alone) (es : List Event) → Given w Of finish → IsRun w es → Numbers w (reached w es)
numbers_hold w Of finish es v run =
    let r = numbers_in_range w es v.text run in
    record {
      range = r;
      commits = commits_drawn w Of finish es v run;
      pairs = pairs_stand w es v.text run;
      settled = settled_below w (reached w es) v.text.bids (bid_low w es run) (settling.batches_settle_in_order w es v.text run) r;
    }
  where
    bid_low : {C : Type 0} (w : Fixed C) (es : List Event) → IsRun w es → w.text.opening.next_bid ≤ (reached w es).ring.next_bid
    bid_low w es run = along w (λ s. w.text.opening.next_bid ≤ s.ring.next_bid) (λ e s ok l. omega (arith, l, bid_went w e s)) es (opening w) run (omega arith)

tid_low : {C : Type 0} (w : Fixed C) (es : List Event) → IsRun w es → w.text.opening.next_tid ≤ (reached w es).ring.next_tid
tid_low w es run = along w (λ s. w.text.opening.next_tid ≤ s.ring.next_tid) (λ e s ok l. omega (arith, l, tid_went w e s)) es (opening w) run (omega arith)

bid_low : {C : Type 0} (w : Fixed C) (es : List Event) → IsRun w es → w.text.opening.next_bid ≤ (reached w es).ring.next_bid
bid_low w es run = along w (λ s. w.text.opening.next_bid ≤ s.ring.next_bid) (λ e s ok l. omega (arith, l, bid_went w e s)) es (opening w) run (omega arith)

next_stand : {C : Type 0} (w : Fixed C) (Of : Tx → C → Type 0) (finish : C → List State → Alone) (es ds : List Event) (kept : ℕ → ℕ) → Given w Of finish → IsRun w ds
    → ((k : ℕ) → is_in w.text.logs (left_in (reached w ds) kept) (OfBatch k) ≡ true → BatchIsWhole w.text.logs (left_in (reached w ds) kept) k) → ((t : ℕ) → is_in w.text.logs (left_in (reached w ds) kept) (OfAct t) ≡ true → ActIsWhole w.text.logs (left_in (reached w ds) kept) t)
    → NextNumbersStand w finish es (reached w ds) (history w ds) (left_in (reached w ds) kept)
unfolding PactsFrom AllFrom
next_stand {C} w Of finish es ds kept v run batches acts =
    let g = all_good w Of finish ds v run in
    let n = numbers_hold w Of finish ds v run in
    let t : (l : ℕ) → AllByRecursion (TellsOf (reached w ds).desk.batches (reached w ds).book.acts) (left_in (reached w ds) kept l) = λ l. all_take (TellsOf (reached w ds).desk.batches (reached w ds).book.acts) (kept l) (log_at (reached w ds) l).records (tells_of w Of finish ds v run l) in
    record {
      above_members = all_members w finish (reached w ds) (history w ds) (left_in (reached w ds) kept) (history w ds).committed v.text.some_logs n g.good.known g.acts (record { tells = t; whole_batches = batches; whole_acts = acts }) g.pacts_from g.from;
      drawn_tid = is_drawn tids_in w.text.opening.next_tid w.text.logs (reached w ds).ring.next_tid (left_in (reached w ds) kept) v.text.tids (tid_low w ds run) (λ l. weaker (TellsOf (reached w ds).desk.batches (reached w ds).book.acts) (λ r. AllByRecursion (λ n. n < (reached w ds).ring.next_tid) (tids_in r)) (left_in (reached w ds) kept l) (λ r p. tids_drawn w (reached w ds) r n p) (t l));
      drawn_bid = is_drawn bids_in w.text.opening.next_bid w.text.logs (reached w ds).ring.next_bid (left_in (reached w ds) kept) v.text.bids (bid_low w ds run) (λ l. weaker (TellsOf (reached w ds).desk.batches (reached w ds).book.acts) (λ r. AllByRecursion (λ n. n < (reached w ds).ring.next_bid) (bids_in r)) (left_in (reached w ds) kept l) (λ r p. bids_drawn w (reached w ds) (history w ds) r n g.acts p) (t l));
      drawn_c = is_drawn cs_in w.text.opening.next_c w.text.logs (reached w ds).book.next_c (left_in (reached w ds) kept) v.text.cs n.commits.low (λ l. weaker (TellsOf (reached w ds).desk.batches (reached w ds).book.acts) (λ r. AllByRecursion (λ n. n < (reached w ds).book.next_c) (cs_in r)) (left_in (reached w ds) kept l) (λ r p. cs_drawn w (reached w ds) r n p) (t l));
    }

no_left : (n k l : ℕ) → take k (Rattle.std.specs.Prelude.slice_index_or (Rattle.std.specs.Prelude.replicate n Rattle.protocol.specs.Effects.no_log) l Rattle.protocol.specs.Effects.no_log).records ≡ []
no_left n k l = subst (λ z. take k z ≡ []) (sym (Rattle.protocol_records.proofs.crash.CrashParts.no_records n l)) (nothing k)
  where
    nothing : (k : ℕ) → take {A = LogRecord} k [] ≡ []
    nothing zero = refl
    nothing (suc k) = refl

at_opening : {C : Type 0} (w : Fixed C) (finish : C → List State → Alone) (es : List Event) (kept : ℕ → ℕ) → IsText w.text → NextNumbersStand w finish es (opening w) no_history (left_in (opening w) kept)
at_opening w finish es kept t = record {
  above_members = tt;
  drawn_tid = is_drawn tids_in w.text.opening.next_tid w.text.logs w.text.opening.next_tid (left_in (opening w) kept) t.tids (omega arith) (λ l. subst (AllByRecursion (λ r. AllByRecursion (λ n. n < w.text.opening.next_tid) (tids_in r))) (sym (no_left w.text.logs (kept l) l)) tt);
  drawn_bid = is_drawn bids_in w.text.opening.next_bid w.text.logs w.text.opening.next_bid (left_in (opening w) kept) t.bids (omega arith) (λ l. subst (AllByRecursion (λ r. AllByRecursion (λ n. n < w.text.opening.next_bid) (bids_in r))) (sym (no_left w.text.logs (kept l) l)) tt);
  drawn_c = is_drawn cs_in w.text.opening.next_c w.text.logs w.text.opening.next_c (left_in (opening w) kept) t.cs (omega arith) (λ l. subst (AllByRecursion (λ r. AllByRecursion (λ n. n < w.text.opening.next_c) (cs_in r))) (sym (no_left w.text.logs (kept l) l)) tt);
}

pub next_numbers_stand : {C : Type 0} → AtEveryMoment (NextNumbersStand {C = C})
next_numbers_stand {C} w finish es m kept f text run left = by (length w.text.opening.states) refl
  where
    r : IsRun w m.events
    r = front_runs w m.events m.later (subst (λ xs. IsRun w xs) m.splits run)

    none : (ds : List Event) → length w.text.opening.states ≡ 0 → IsRun w ds → NextNumbersStand w finish es (reached w ds) (history w ds) (left_in (reached w ds) kept)
    none [] l r = at_opening w finish es kept text
    none (d ∷ ds) l r = absurd (none_allowed w d text l r.0)

    by : (n : ℕ) → length w.text.opening.states ≡ n → NextNumbersStand w finish es (reached w m.events) (history w m.events) (left_in (reached w m.events) kept)
    by (suc n) l =
        let Of : Tx → C → Type 0 = IsRest w.code (IsTxIn w.text) in
        let v : Given w Of finish = record { text = text; actors = omega (arith, l); facts = f } in
        let c = moment_is_cut w es m kept run left in
        let g = all_good w Of finish m.events v r in
        let k = logs_hold w Of finish m.events v r in
        next_stand w Of finish es m.events kept v r (λ b e. whole_batch w Of finish (reached w m.events) (history w m.events) kept b c g k e) (λ t e. whole_act w Of finish (reached w m.events) (history w m.events) kept t c g k e)
    by zero l = none m.events l r
