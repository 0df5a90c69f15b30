-- At most eighteen records a transaction.
use Rattle.std.specs.Prelude.{◌≡◌, refl, ℕ, ◌+◌, ◌*◌, ◌≤◌, ◌==◌, nat_lt, not, Bool, true, false, ◌&&◌, Option, Some, None, option_map, List, [], ◌∷◌, ◌++◌, length, map, filter, take}
use Rattle.std.specs.List.{AllByRecursion, list_any}
use Rattle.std.proofs.Common.{arith, sym, ap, subst, inl, inr}
use Rattle.std.proofs.lemmas.List.{length-take}
use Rattle.std.proofs.lemmas.Bool.{true≢false, or_cases, or_left, or_right, and_parts, and_from, eqb-true, eq-eqb, ltb-true, cases_Bool}
use Rattle.snap_base.specs.declared.transactions.Tx.{Tx}
use Rattle.snap_base.specs.declared.transactions.State.{State}
use Rattle.protocol.specs.Facts.{Alone}
use Rattle.protocol.specs.Fixed.{Fixed, IsText}
use Rattle.protocol.specs.Laws.{AfterEveryRunWithHistory}
use Rattle.protocol.specs.Records.{LogRecord, BatchInfo, BatchComplete, BatchDone, ActPrepare, ActDone}
use Rattle.protocol.specs.Rests.{IsRest, IsTxIn}
use Rattle.protocol.specs.Parts.{Act, Batch, Pact, Machine}
use Rattle.protocol.specs.Events.{Event, Submit, Form}
use Rattle.protocol.specs.Words.{is_among, is_empty, is_value, is_formed, act_of, batch_of, below}
use Rattle.protocol.specs.Conditions.{IsAllowed, conditions, queue}
use Rattle.protocol.specs.Contents.{NextTx, BatchActors, BatchTids}
use Rattle.protocol.specs.Effects.{after}
use Rattle.protocol.specs.Numbers.{from, flat, times, one_if, once_in, txs_in, TransactionsInOnePlace}
use Rattle.protocol.specs.OnRing as ring
use Rattle.protocol.specs.OnDesk as desk
use Rattle.protocol.specs.Runs.{opening, IsRun, reached}
use Rattle.protocol.specs.History.{History, no_history, history}
use Rattle.protocol.specs.Left.{total}
use Rattle.protocol_records.specs.RecordLaws.{RecordKey, OfInfo, OfComplete, OfCommit, OfPrepare, OfActCommit, has_key, all_records, batch_actors, act_actors, TellsOf, RecordsTell, most_of_batches, most_of_acts, RecordsAreFew}
use Rattle.protocol_laws.proofs.first.Frames.{frame}
use Rattle.protocol_laws.proofs.first.Lists.{all_join, all_alike, any_front, weaker}
use Rattle.protocol_laws.proofs.first.Times
use Rattle.protocol_laws.proofs.first.OnePlace.{transactions_in_one_place}
use Rattle.protocol_laws.proofs.first.PairsFound.{TidsAscend, each_act, tids_opened}
use Rattle.protocol_laws.proofs.machine.ActsFound as found
use Rattle.protocol_laws.proofs.machine.ControlWalk.{AllControls}
use Rattle.protocol_laws.proofs.machine.MarksKept as marks
use Rattle.protocol_laws.proofs.machine.TurnsKept.{one_is}
use Rattle.protocol_laws.proofs.machine.Good.{Given}
use Rattle.protocol_laws.proofs.machine.AllGood.{all_good, along_good}
use Rattle.protocol_records.proofs.crash.Durable.{any_back}
use Rattle.protocol_theorems.proofs.quiet.JoinsKept.{Joins, joins_kept}
use Rattle.protocol_theorems.proofs.quiet.LeftParts.{count_some, declarers}
use Rattle.protocol_theorems.proofs.quiet.RunsEnd.{small}
use Rattle.protocol_records.proofs.recording.FewActors.{Visited, visited_kept, FewActs, few_acts_kept}
use Rattle.protocol_records.proofs.recording.FewLists.{no_more_than, no_more_than_keys}
use Rattle.protocol_records.proofs.recording.RecordLists.{in_all}
use Rattle.protocol_records.proofs.recording.AddedOnce.{OnceKeys}
use Rattle.protocol_records.proofs.recording.RecordsHold.{Records, records_hold, records_opened, tells_of, tells_opened, of_runs}
use Rattle.protocol_laws.proofs.first.Controls.{at_most_one}
use Rattle.protocol_theorems.proofs.order.NamesKept.{numbered_length}
use Rattle.protocol_theorems.proofs.quiet.LeftRing.{some_taken}

-- ---- the keys that records may have

batch_keys : Batch → List RecordKey
batch_keys b = OfInfo b.bid ∷ OfCommit b.bid ∷ map (OfComplete b.bid) (batch_actors b)

act_keys : Act → List RecordKey
act_keys x = OfActCommit x.tid ∷ map (OfPrepare x.tid) (act_actors x)

keys_of_batches : List Batch → List RecordKey
keys_of_batches [] = []
keys_of_batches (b ∷ bs) = batch_keys b ++ keys_of_batches bs

keys_of_acts : List Act → List RecordKey
keys_of_acts [] = []
keys_of_acts (x ∷ xs) = act_keys x ++ keys_of_acts xs

length_batches : (bs : List Batch) → length (keys_of_batches bs) ≡ most_of_batches bs
unfolding batch_keys keys_of_batches
length_batches [] = refl
length_batches (b ∷ bs) = omega (arith, Times.length_join (map (OfComplete b.bid) (batch_actors b)) (keys_of_batches bs), Times.length_map (OfComplete b.bid) (batch_actors b), Times.length_map (λ p. p.actor) b.places, length_batches bs)

length_acts : (xs : List Act) → length (keys_of_acts xs) ≡ most_of_acts xs
unfolding act_keys keys_of_acts
length_acts [] = refl
length_acts (x ∷ xs) = omega (arith, Times.length_join (map (OfPrepare x.tid) (act_actors x)) (keys_of_acts xs), Times.length_map (OfPrepare x.tid) (act_actors x), Times.length_map (λ p. p.actor) x.places, length_acts xs)

in_batches : (p : RecordKey → Bool) (k : ℕ) (b : Batch) (bs : List Batch) → batch_of k bs ≡ Some b → list_any p (batch_keys b) ≡ true → list_any p (keys_of_batches bs) ≡ true
unfolding keys_of_batches
in_batches p k b [] e h = absurd (cc e)
in_batches p k b (x ∷ xs) e h = by (x.bid == k) e (in_batches p k b xs)
  where
    by : (v : Bool) → (Rattle.std.specs.Prelude.if◌then◌else◌ v (Some x) (batch_of k xs)) ≡ Some b → (batch_of k xs ≡ Some b → list_any p (batch_keys b) ≡ true → list_any p (keys_of_batches xs) ≡ true) → list_any p (batch_keys x ++ keys_of_batches xs) ≡ true
    by true q r = let i : b ≡ x = cc (sym q) in any_front p (batch_keys x) (keys_of_batches xs) (subst (λ z. list_any p (batch_keys z) ≡ true) i h)
    by false q r = any_back p (batch_keys x) (keys_of_batches xs) (r q h)

in_acts : (p : RecordKey → Bool) (t : ℕ) (x : Act) (xs : List Act) → act_of t xs ≡ Some x → list_any p (act_keys x) ≡ true → list_any p (keys_of_acts xs) ≡ true
unfolding keys_of_acts
in_acts p t x [] e h = absurd (cc e)
in_acts p t x (y ∷ ys) e h = by (y.tid == t) e (in_acts p t x ys)
  where
    by : (v : Bool) → (Rattle.std.specs.Prelude.if◌then◌else◌ v (Some y) (act_of t ys)) ≡ Some x → (act_of t ys ≡ Some x → list_any p (act_keys x) ≡ true → list_any p (keys_of_acts ys) ≡ true) → list_any p (act_keys y ++ keys_of_acts ys) ≡ true
    by true q r = let i : x ≡ y = cc (sym q) in any_front p (act_keys y) (keys_of_acts ys) (subst (λ z. list_any p (act_keys z) ≡ true) i h)
    by false q r = any_back p (act_keys y) (keys_of_acts ys) (r q h)

mapped_some : {X Y : Type 0} (f : X → Y) (o : Option X) (y : Y) → option_map f o ≡ Some y → (x : X) × (o ≡ Some x)
mapped_some f None y e = absurd (cc e)
mapped_some f (Some x) y e = (x, refl)

among_completes : (k a j : ℕ) (st : State) (ns : List ℕ) → (k == j) ≡ true → is_among a ns ≡ true → list_any (λ y. has_key y (BatchComplete k a st)) (map (OfComplete j) ns) ≡ true
among_completes k a j st [] e h = absurd (true≢false (sym h))
among_completes k a j st (n ∷ ns) e h = elim (or_cases (n == a) _ h) [ inl q ↦ or_left ((k == j) && (a == n)) _ (and_from (k == j) (a == n) e (eq-eqb a n (sym (eqb-true n a q)))) | inr q ↦ or_right ((k == j) && (a == n)) _ (among_completes k a j st ns e q) ]

among_prepares : (t a u : ℕ) (st : State) (ns : List ℕ) → (t == u) ≡ true → is_among a ns ≡ true → list_any (λ y. has_key y (ActPrepare t a st)) (map (OfPrepare u) ns) ≡ true
among_prepares t a u st [] e h = absurd (true≢false (sym h))
among_prepares t a u st (n ∷ ns) e h = elim (or_cases (n == a) _ h) [ inl q ↦ or_left ((t == u) && (a == n)) _ (and_from (t == u) (a == n) e (eq-eqb a n (sym (eqb-true n a q)))) | inr q ↦ or_right ((t == u) && (a == n)) _ (among_prepares t a u st ns e q) ]

named : (bs : List Batch) (xs : List Act) (r : LogRecord) → TellsOf bs xs r → list_any (λ y. has_key y r) (keys_of_batches bs ++ keys_of_acts xs) ≡ true
unfolding batch_keys act_keys
named bs xs (BatchInfo k actors tids) t =
    let b = mapped_some batch_actors (batch_of k bs) actors t.0 in
    let p : RecordKey → Bool = λ y. has_key y (BatchInfo k actors tids) in
    any_front p (keys_of_batches bs) (keys_of_acts xs) (in_batches p k b.0 bs b.1 (or_left (k == b.0.bid) _ (eq-eqb k b.0.bid (sym (eqb-true b.0.bid k (marks.found_bid k b.0 bs b.1))))))
named bs xs (BatchComplete k a st) t =
    let b = one_is (λ b. is_among a (batch_actors b)) (batch_of k bs) t in
    let p : RecordKey → Bool = λ y. has_key y (BatchComplete k a st) in
    any_front p (keys_of_batches bs) (keys_of_acts xs) (in_batches p k b.0 bs b.1 (among_completes k a b.0.bid st (batch_actors b.0) (eq-eqb k b.0.bid (sym (eqb-true b.0.bid k (marks.found_bid k b.0 bs b.1)))) b.2))
named bs xs (BatchDone k vs) t =
    let b = one_is (λ b. not (is_formed b.stage)) (batch_of k bs) t.0 in
    let p : RecordKey → Bool = λ y. has_key y (BatchDone k vs) in
    any_front p (keys_of_batches bs) (keys_of_acts xs) (in_batches p k b.0 bs b.1 (or_left (k == b.0.bid) _ (eq-eqb k b.0.bid (sym (eqb-true b.0.bid k (marks.found_bid k b.0 bs b.1))))))
named bs xs (ActPrepare t a st) h =
    let x = one_is (λ x. is_value x.result && is_among a (act_actors x)) (act_of t xs) h in
    let p : RecordKey → Bool = λ y. has_key y (ActPrepare t a st) in
    any_back p (keys_of_batches bs) (keys_of_acts xs) (in_acts p t x.0 xs x.1 (among_prepares t a x.0.tid st (act_actors x.0) (eq-eqb t x.0.tid (sym (found.found_tid t x.0 xs x.1))) (and_parts (is_value x.0.result) (is_among a (act_actors x.0)) x.2).1))
named bs xs (ActDone t m c v actors) h =
    let p : RecordKey → Bool = λ y. has_key y (ActDone t m c v actors) in
    any_back p (keys_of_batches bs) (keys_of_acts xs) (in_acts p t h.act xs h.found (or_left (t == h.act.tid) _ (eq-eqb t h.act.tid (sym (found.found_tid t h.act xs h.found)))))

of_each : {C : Type 0} (w : Fixed C) (finish : C → List State → Alone) (s : Machine C) (h : History) → OnceKeys s → RecordsTell w finish s h → length (all_records s.logs) ≤ most_of_batches s.desk.batches + most_of_acts s.book.acts
unfolding OnceKeys
of_each w finish s h once tells = omega (
  arith,
  no_more_than_keys has_key (all_records s.logs) (keys_of_batches s.desk.batches ++ keys_of_acts s.book.acts) once (weaker (TellsOf s.desk.batches s.book.acts) (λ r. list_any (λ y. has_key y r) (keys_of_batches s.desk.batches ++ keys_of_acts s.book.acts) ≡ true) (all_records s.logs) (named s.desk.batches s.book.acts) (in_all (TellsOf s.desk.batches s.book.acts) s.logs tells)),
  Times.length_join (keys_of_batches s.desk.batches) (keys_of_acts s.book.acts),
  length_batches s.desk.batches,
  length_acts s.book.acts,
)

-- ---- a batch has at most sixteen actors a PACT

abbrev pub HasFew : Batch → Type 0
HasFew b = (1 ≤ length b.pacts) × (length b.places ≤ 16 * length b.pacts)

unfoldable pub FewBatches : {C : Type 0} → Machine C → Type 0
FewBatches s = AllByRecursion HasFew s.desk.batches

few_declared : {C : Type 0} (w : Fixed C) (ps : List Pact) (es : List ℕ) → length (filter (λ a. list_any (ring.declares w.text a) ps) es) ≤ total (λ a. length (map (λ p. p.tid) (filter (ring.declares w.text a) ps))) es
few_declared w ps [] = omega arith
few_declared w ps (a ∷ es) = by (list_any (ring.declares w.text a) ps) (count_some (λ p. p.tid) (ring.declares w.text a) ps) (few_declared w ps es)
  where
    by : (b : Bool) → (b ≡ true → 1 ≤ length (map (λ p. p.tid) (filter (ring.declares w.text a) ps))) → length (filter (λ a. list_any (ring.declares w.text a) ps) es) ≤ total (λ a. length (map (λ p. p.tid) (filter (ring.declares w.text a) ps))) es
        → length (Rattle.std.specs.Prelude.if◌then◌else◌ b (a ∷ filter (λ a. list_any (ring.declares w.text a) ps) es) (filter (λ a. list_any (ring.declares w.text a) ps) es)) ≤ length (map (λ p. p.tid) (filter (ring.declares w.text a) ps)) + total (λ a. length (map (λ p. p.tid) (filter (ring.declares w.text a) ps))) es
    by true k r = omega (arith, k refl, r)
    by false k r = omega (arith, r)

new_few : {C : Type 0} (w : Fixed C) (k : ℕ) (s : Machine C) → IsText w.text → not (is_empty (queue s.ring.pacts s.ring.holder)) ≡ true → HasFew (desk.new_batch k (ring.next_actors w.text s.ring) (ring.next_pacts w.text s.ring))
new_few w k s t e = (
  omega (arith, numbered_length s.ring.next_tid (take w.text.batch (queue s.ring.pacts s.ring.holder)), some_taken w.text.batch (queue s.ring.pacts s.ring.holder) t.some_batch e),
  omega (arith, Times.length_map desk.new_declared (ring.next_actors w.text s.ring), few_declared w (ring.next_pacts w.text s.ring) (below (length s.ring.lasts)), declarers w (length s.ring.lasts) (ring.next_pacts w.text s.ring) (small w t).uses),
)

same_few : (x y : Batch) → map (λ p. p.actor) y.places ≡ map (λ p. p.actor) x.places → map (λ p. p.tid) y.pacts ≡ map (λ p. p.tid) x.pacts → HasFew x → HasFew y
same_few x y e i h =
    let a = Times.length_map (λ p. p.actor) x.places in
    let b = Times.length_map (λ p. p.actor) y.places in
    let c = Times.length_map (λ p. p.tid) x.pacts in
    let d = Times.length_map (λ p. p.tid) y.pacts in
    let f : length (map (λ p. p.actor) y.places) ≡ length (map (λ p. p.actor) x.places) = ap length e in
    let g : length (map (λ p. p.tid) y.pacts) ≡ length (map (λ p. p.tid) x.pacts) = ap length i in
    (omega (arith, h.0, c, d, g), omega (arith, h.1, a, b, c, d, f, g))

few_batches_kept : {C : Type 0} (w : Fixed C) (e : Event) (s : Machine C) → IsText w.text → IsAllowed w e s → FewBatches s → FewBatches (after w e s)
unfolding FewBatches conditions after
few_batches_kept w (Form k) s t ok h = all_join HasFew s.desk.batches _ h (new_few w k s t ok.1.0, tt)
few_batches_kept w e s t ok h = all_alike (λ b. map (λ p. p.actor) b.places) (λ b. map (λ p. p.tid) b.pacts) HasFew s.desk.batches (after w e s).desk.batches same_few (frame w e s BatchActors refl) (frame w e s BatchTids refl) h

-- and no more PACTs than a batch may have
abbrev pub IsFilled : ℕ → Batch → Type 0
IsFilled most b = (1 ≤ length b.pacts) × (length b.pacts ≤ most)

unfoldable pub FilledBatches : {C : Type 0} → Fixed C → Machine C → Type 0
FilledBatches w s = AllByRecursion (IsFilled w.text.batch) s.desk.batches

same_filled : (most : ℕ) (x y : Batch) → map (λ p. p.tid) y.pacts ≡ map (λ p. p.tid) x.pacts → IsFilled most x → IsFilled most y
same_filled most x y i h =
    let c = Times.length_map (λ p. p.tid) x.pacts in
    let d = Times.length_map (λ p. p.tid) y.pacts in
    let g : length (map (λ p. p.tid) y.pacts) ≡ length (map (λ p. p.tid) x.pacts) = ap length i in
    (omega (arith, h.0, c, d, g), omega (arith, h.1, c, d, g))

new_filled : {C : Type 0} (w : Fixed C) (k : ℕ) (s : Machine C) → IsText w.text → not (is_empty (queue s.ring.pacts s.ring.holder)) ≡ true → IsFilled w.text.batch (desk.new_batch k (ring.next_actors w.text s.ring) (ring.next_pacts w.text s.ring))
new_filled w k s t e =
    let queued = queue s.ring.pacts s.ring.holder in
    let many = numbered_length s.ring.next_tid (take w.text.batch queued) in
    (omega (arith, many, some_taken w.text.batch queued t.some_batch e), omega (arith, many, length-take w.text.batch queued))

filled_kept : {C : Type 0} (w : Fixed C) (e : Event) (s : Machine C) → IsText w.text → IsAllowed w e s → FilledBatches w s → FilledBatches w (after w e s)
unfolding FilledBatches conditions after
filled_kept w (Form k) s t ok h = all_join (IsFilled w.text.batch) s.desk.batches _ h (new_filled w k s t ok.1.0, tt)
filled_kept w e s t ok h =
    all_alike (λ b. map (λ p. p.actor) b.places) (λ b. map (λ p. p.tid) b.pacts) (IsFilled w.text.batch) s.desk.batches (after w e s).desk.batches (λ x y places. same_filled w.text.batch x y)
    (frame w e s BatchActors refl) (frame w e s BatchTids refl) h

-- ---- no more are submitted than the text has

unfoldable pub Submitted : {C : Type 0} → Fixed C → Machine C → Type 0
Submitted w s = s.ring.next_tx ≤ length w.text.txs

submitted_kept : {C : Type 0} (w : Fixed C) (e : Event) (s : Machine C) → IsAllowed w e s → Submitted w s → Submitted w (after w e s)
unfolding Submitted conditions after
submitted_kept w (Submit n) s ok h = let v = and_parts (n == s.ring.next_tx) (nat_lt n (length w.text.txs)) ok.0 in omega (arith, eqb-true n s.ring.next_tx v.0, ltb-true n (length w.text.txs) v.1)
submitted_kept w e s ok h = let i = frame w e s NextTx refl in omega (arith, i, h)

-- ---- all of it, over every run

pub record Few {C : Type 0} (w : Fixed C) (s : Machine C) (h : History) : Type 0 where
  pub joins : Joins s
  pub visited : AllControls (Visited w s.book.acts) s
  pub acts : FewActs s
  pub batches : FewBatches s
  pub pacts : FilledBatches w s
  pub submitted : Submitted w s

few_opened : {C : Type 0} (w : Fixed C) → Few w (opening w) no_history
unfolding Joins FewActs FewBatches FilledBatches Submitted
few_opened w = record {
  joins = λ t x e. absurd (cc e);
  visited = Rattle.protocol_records.proofs.recording.FewActors.visited_opened w;
  acts = λ t x e. absurd (cc e);
  batches = tt;
  pacts = tt;
  submitted = omega arith;
}

few_hold : {C : Type 0} (w : Fixed C) (Of : Tx → C → Type 0) (finish : C → List State → Alone) (es : List Event) → Given w Of finish → IsRun w es → Few w (reached w es) (history w es)
few_hold w Of finish es v run = along_good w Of finish (Few w) v (λ e s h ok g f. record {
  joins = joins_kept w e s h ok g.none g.acts g.left g.standing f.joins;
  visited = visited_kept w Of finish e s h v ok g f.visited;
  acts = few_acts_kept w Of finish e s h v ok g f.joins f.visited f.acts;
  batches = few_batches_kept w e s v.text ok f.batches;
  pacts = filled_kept w e s v.text ok f.pacts;
  submitted = submitted_kept w e s ok f.submitted;
}) (few_opened w) es run

-- ---- sums

batches_sum : (bs : List Batch) → AllByRecursion HasFew bs → most_of_batches bs ≤ 18 * total (λ b. length b.pacts) bs
batches_sum [] h = omega arith
batches_sum (b ∷ bs) h = omega (arith, h.0.0, h.0.1, batches_sum bs h.1)

acts_sum : (xs : List Act) → AllByRecursion (λ x. length x.places ≤ 16) xs → most_of_acts xs ≤ 18 * length xs
acts_sum [] h = omega arith
acts_sum (x ∷ xs) h = omega (arith, h.0, acts_sum xs h.1)

flat_sum : (bs : List Batch) → length (flat (map (λ b. map (λ p. p.tx) b.pacts) bs)) ≡ total (λ b. length b.pacts) bs
flat_sum [] = refl
flat_sum (b ∷ bs) = omega (arith, Times.length_join (map (λ p. p.tx) b.pacts) (flat (map (λ b. map (λ p. p.tx) b.pacts) bs)), Times.length_map (λ p. p.tx) b.pacts, flat_sum bs)

among_times : (n : ℕ) (xs : List ℕ) → 1 ≤ times n xs → is_among n xs ≡ true
among_times n [] l = absurd (omega (arith, l))
among_times n (x ∷ xs) l = elim (cases_Bool (x == n)) [
  | inl e ↦ or_left (x == n) _ e
  | inr e ↦ or_right (x == n) _ (among_times n xs (omega (arith, l, Times.times_cons n x xs, ap one_if e)))
]

each_counted : (Q : ℕ → Type 0) (all xs : List ℕ) → ((n : ℕ) → times n xs ≤ times n all) → ((n : ℕ) → 1 ≤ times n all → Q n) → AllByRecursion Q xs
each_counted Q all [] m k = tt
each_counted Q all (x ∷ xs) m k = (k x (omega (arith, m x, Times.times_cons x x xs, ap one_if (eq-eqb x x refl))), each_counted Q all xs (λ n. omega (arith, m n, Times.times_cons n x xs)) k)

from_zero : (high n : ℕ) → times n (from 0 high) ≡ once_in 0 high n
from_zero high n = let z : 0 + high ≡ high = omega arith in subst (λ k. times n (from 0 high) ≡ once_in 0 k n) z (Times.times_from 0 high n)

placed_once : {C : Type 0} (w : Fixed C) (s : Machine C) → TransactionsInOnePlace w s → length (txs_in s) ≤ s.ring.next_tx
placed_once w s p = omega (
  arith,
  no_more_than (txs_in s) (from 0 s.ring.next_tx) (λ n. subst (λ z. z ≤ 1) (sym (p n)) (at_most_one _))
      (each_counted (λ n. is_among n (from 0 s.ring.next_tx) ≡ true) (txs_in s) (txs_in s) (λ n. omega arith) (λ n l. among_times n (from 0 s.ring.next_tx) (omega (arith, l, p n, from_zero s.ring.next_tx n)))),
  Times.length_from 0 s.ring.next_tx,
)

all_sum : {C : Type 0} (s : Machine C) → total (λ b. length b.pacts) s.desk.batches + length s.book.acts ≤ length (txs_in s)
all_sum s = omega (
  arith,
  Times.length_join (flat s.ring.pacts ++ flat s.ring.acts) (flat (map (λ b. map (λ p. p.tx) b.pacts) s.desk.batches) ++ map (λ x. x.tx) s.book.acts),
  Times.length_join (flat (map (λ b. map (λ p. p.tx) b.pacts) s.desk.batches)) (map (λ x. x.tx) s.book.acts),
  Times.length_map (λ x. x.tx) s.book.acts,
  flat_sum s.desk.batches,
)

few_of : {C : Type 0} (w : Fixed C) (finish : C → List State → Alone) (s : Machine C) (h : History) → Records w s h → RecordsTell w finish s h → Few w s h → TidsAscend s → TransactionsInOnePlace w s → RecordsAreFew w finish s h
unfolding FewActs FewBatches FilledBatches Submitted
few_of w finish s h r tells f asc one =
    let few = each_act s (λ t x. length x.places ≤ 16) asc f.acts in
    record {
      of_each = of_each w finish s h r.once tells;
      batches = f.batches;
      pacts = f.pacts;
      acts = few;
      of_all = omega (arith, of_each w finish s h r.once tells, batches_sum s.desk.batches f.batches, acts_sum s.book.acts few, all_sum s, placed_once w s one);
      submitted = f.submitted;
    }

pub records_few : {C : Type 0} → AfterEveryRunWithHistory (RecordsAreFew {C = C})
records_few {C} = of_runs (RecordsAreFew {C = C}) (λ w finish t. few_of w finish (opening w) no_history (records_opened w) (tells_opened w finish) (few_opened w) (tids_opened w) (transactions_in_one_place w [] t tt))
    (λ w finish es v run. few_of w finish (reached w es) (history w es) (records_hold w (IsRest w.code (IsTxIn w.text)) finish es v run) (tells_of w (IsRest w.code (IsTxIn w.text)) finish es v run) (few_hold w (IsRest w.code (IsTxIn w.text)) finish es v run) (all_good w (IsRest w.code (IsTxIn w.text)) finish es v run).ascend (transactions_in_one_place w es v.text run))
