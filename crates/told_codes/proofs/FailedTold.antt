-- Who failed with its batch did so behind those alone that are told that they committed.
use Rattle.std.specs.Prelude.{◌≡◌, refl, ℕ, zero, suc, ◌<◌, ◌≤◌, ◌==◌, nat_lt, not, Bool, true, false, ◌&&◌, if◌then◌else◌, Some, List, [], ◌∷◌, ◌++◌, length, map, filter}
use Rattle.std.specs.List.{AllByRecursion}
use Rattle.std.proofs.Common.{arith, sym, ap, subst, inl, inr, ◌∙◌}
use Rattle.std.proofs.lemmas.Bool.{true≢false, or_cases, and_parts, and_from, eqb-true, eq-eqb, lt-ltb, not-true, false_from_ne_true}
use Rattle.snap_base.specs.declared.transactions.State.{State}
use Rattle.snap_base.specs.declared.transactions.Tx.{Tx}
use Rattle.protocol.specs.Fixed.{Fixed, IsText, tx_at}
use Rattle.protocol.specs.Facts.{Alone, serial, state_in}
use Rattle.protocol.specs.Laws.{OfEveryRun}
use Rattle.protocol.specs.Parts.{Batch, Pact, Who, OfBatch, OfAct, Machine}
use Rattle.protocol.specs.Rests.{IsRest, IsTxIn, HasFacts}
use Rattle.protocol.specs.Events.{Event, Abort}
use Rattle.protocol.specs.Words.{holds, is_who, is_value, is_formed, is_settled, is_open, is_next_to_commit, batch_of}
use Rattle.protocol.specs.Conditions.{IsAllowed, conditions}
use Rattle.protocol.specs.Effects.{cell_at}
use Rattle.protocol.specs.Runs.{opening, EachAllowed, IsRun, reached}
use Rattle.protocol.specs.History.{Done, History, Slice, Ran, Stands, Gone, no_history, history, slices_of, done_pact}
use Rattle.protocol.specs.Chains.{counts, by_place, txs_of, RivalsRise}
use Rattle.protocol_laws.specs.Commits.{is_kept, KeptFront, StatesLink, last_state}
use Rattle.protocol_laws.specs.Linked.{came_to, visitors, IsExplained}
use Rattle.protocol_laws.specs.Marks.{Marked}
use Rattle.protocol_laws.specs.Tracks.{keys_in, slices_in, InOrder}
use Rattle.protocol_laws.proofs.first.Lists.{all_filter, both_all, weaker}
use Rattle.protocol_laws.proofs.first.SettlingKept as settling
use Rattle.protocol_laws.proofs.machine.AllGood.{AllGood, all_good, none_allowed}
use Rattle.protocol_laws.proofs.machine.BatchesCommit.{GoodKey, good_keys}
use Rattle.protocol_laws.proofs.machine.CommitsKept.{Committed}
use Rattle.protocol_laws.proofs.machine.Good.{Given}
use Rattle.protocol_laws.proofs.machine.Higher.{higher}
use Rattle.protocol_laws.proofs.machine.PlacesRise.{IsSided, below_open}
use Rattle.protocol_laws.proofs.machine.TracksKept.{Tracked}
use Rattle.protocol_theorems.specs.Order.{LeavesIt, OrderFacts}
use Rattle.protocol_theorems.specs.OrderCases.{OwnPlace}
use Rattle.protocol_theorems.proofs.order.ByPlace.{all_sorted}
use Rattle.protocol_theorems.proofs.order.CasesHold.{cases_hold}
use Rattle.protocol_theorems.proofs.order.LastLaw.{all_facts, whole}
use Rattle.protocol_theorems.proofs.order.OrderImplied.{LinkedFrom, serial_results, serial_length, serial_states, sorted_links, sorted_last}
use Rattle.protocol_records.specs.AsTold.{is_over, told_committed}
use Rattle.protocol_records.specs.Logged.{is_on, GoneSure, IsThere, AllThere}
use Rattle.protocol_records.proofs.crash.KeptSure.{same_who}
use Rattle.protocol_records.proofs.crash.OnLong.{on_kept}
use Rattle.protocol_verdicts.specs.EvidenceSerial.{FailsInSerial, FailedAt}
use Rattle.protocol_verdicts.proofs.evidence.EvidenceBetween.{first_ones}
use Rattle.protocol_verdicts.proofs.evidence.EvidenceTold.{verdicts_tell}
use Rattle.told_codes.specs.Failures.{FailedBehind, ToldFailuresStand}
use Rattle.told_codes.proofs.LaterOut.{StaysBehind, stays_behind}
use Rattle.told_codes.proofs.PactsAlone.{pacts_explained, pacts_linked, txs_pacts, results_pacts}
use Rattle.told_codes.proofs.PlacesSerial.{NoneBehind, none_behind, rest_links, rest_leaves, rise_filter, visitors_filter}
use Rattle.told_codes.proofs.WritersPast.{is_past, past_weaker, settled_past, gone_past, wrote_at, Carried, carried, over, AreKept, all_over}

-- ---- where a batch has run that has not committed, each ACT that did is past

both_empty : {X : Type 0} (xs ys : List X) → xs ++ ys ≡ [] → (xs ≡ []) × (ys ≡ [])
both_empty [] ys e = (refl, e)
both_empty (x ∷ xs) ys e = absurd (cc e)

none_ran : (who : Who) (rs : List Ran) → slices_in rs ≡ [] → slices_of who rs ≡ []
none_ran who [] e = refl
none_ran who (Stands y c ss ∷ rs) e = let p = both_empty ss (slices_in rs) e in by (is_who y who) p.0 (none_ran who rs p.1)
  where
    by : (b : Bool) → ss ≡ [] → slices_of who rs ≡ [] → (if b then ss else slices_of who rs) ≡ []
    by true h g = h
    by false h g = g
none_ran who (Gone y ss ∷ rs) e = none_ran who rs (both_empty ss (slices_in rs) e).1

behind_one : (y who : Who) (ss : List Slice) (rs : List Ran) → is_who y who ≡ false → ((if is_who y who then ss else slices_of who rs) ≡ [] → ⊥) → slices_of who rs ≡ [] → ⊥
behind_one y who ss rs e n q = n (rw e q)

act_past : (past : Who → Bool) (kept : List Who) (k a t : ℕ) (bs : List Batch) (rs : List Ran) → is_kept (OfBatch k) kept ≡ false → GoneSure past rs → KeptFront kept rs → (slices_of (OfBatch k) rs ≡ [] → ⊥) → InOrder rs → AllByRecursion (GoodKey a bs) (keys_in rs) → is_kept (OfAct t) kept ≡ true → is_on (OfAct t) rs ≡ true → past (OfAct t) ≡ true
act_past past kept k a t bs [] n g f d o q i e = absurd (true≢false (sym e))
act_past past kept k a t bs (Gone y ss ∷ rs) n g f d o q i e = elim (or_cases (is_who y (OfAct t)) (is_on (OfAct t) rs) e) [
  | inl v ↦ same_who past y (OfAct t) v g.0
  | inr v ↦ act_past past kept k a t bs rs n g.1 f.1 d o q i v
]
act_past past kept k a t bs (Stands (OfBatch x) c ss ∷ rs) n g f d o q i e = by (x == k) refl (λ v. act_past past kept k a t bs rs n g f.1 (behind_one (OfBatch x) (OfBatch k) ss rs v d) o.1 q.1 i e)
  where
    by : (b : Bool) → (x == k) ≡ b → ((x == k) ≡ false → past (OfAct t) ≡ true) → past (OfAct t) ≡ true
    by true v r = absurd (true≢false (sym (f.0 (on_kept kept (OfAct t) rs i e)) ∙ (ap (λ z. is_kept (OfBatch z) kept) (eqb-true x k v) ∙ n)))
    by false v r = r v
act_past past kept k a t bs (Stands (OfAct u) c ss ∷ rs) n g f d o q i e = absurd (by c o.0 q.0.1)
  where
    by : (b : Bool) → (b ≡ false → slices_in rs ≡ []) → (b ≡ true → true ≡ false) → ⊥
    by true v j = true≢false (j refl)
    by false v j = d (none_ran (OfBatch k) rs (v refl))

-- ---- what counts

and_true : (v b : Bool) → b ≡ true → (v && b) ≡ v
and_true true b e = e
and_true false b e = refl

side_counts : (k c : ℕ) (d : Done) → d.place.batch.0 < k → IsSided c d.place → counts k c d ≡ is_value d.result
side_counts k c d l (inl e) = and_true (is_value d.result) _ (by (d.place.side == 0) (eq-eqb d.place.side 0 e))
  where
    by : (b : Bool) → b ≡ true → (if b then nat_lt d.place.batch.0 k else nat_lt d.place.order c) ≡ true
    by true f = lt-ltb d.place.batch.0 k l
    by false f = absurd (true≢false (sym f))
side_counts k c d l (inr e) = and_true (is_value d.result) _ (by (d.place.side == 0))
  where
    by : (b : Bool) → (if b then nat_lt d.place.batch.0 k else nat_lt d.place.order c) ≡ true
    by true = lt-ltb d.place.batch.0 k l
    by false = lt-ltb d.place.order c e.1

swapped : (p q : Done → Bool) (ds : List Done) → filter p (filter q ds) ≡ filter q (filter p ds)
swapped p q [] = refl
swapped p q (d ∷ ds) = by (p d) refl (q d) refl (swapped p q ds)
  where
    by : (b : Bool) → p d ≡ b → (v : Bool) → q d ≡ v → filter p (filter q ds) ≡ filter q (filter p ds) → filter p (if v then d ∷ filter q ds else filter q ds) ≡ filter q (if b then d ∷ filter p ds else filter p ds)
    by true e true f h = rw (e, f) (ap (λ l. d ∷ l) h)
    by true e false f h = rw f h
    by false e true f h = rw e h
    by false e false f h = h

-- a test that all that pass another one pass takes nothing from those
no_less : (p q : Done → Bool) (ds : List Done) → AllByRecursion (λ d. q d ≡ true → p d ≡ true) ds → filter q (filter p ds) ≡ filter q ds
no_less p q [] h = refl
no_less p q (d ∷ ds) h = by (q d) refl (p d) refl (no_less p q ds h.1)
  where
    by : (v : Bool) → q d ≡ v → (b : Bool) → p d ≡ b → filter q (filter p ds) ≡ filter q ds → filter q (if b then d ∷ filter p ds else filter p ds) ≡ (if v then d ∷ filter q ds else filter q ds)
    by true f true e k = rw f (ap (λ l. d ∷ l) k)
    by true f false e k = absurd (true≢false (sym (h.0 f) ∙ e))
    by false f true e k = rw f k
    by false f false e k = k

unfiltered : (P : Done → Type 0) (p : Done → Bool) (ds : List Done) → AllByRecursion P (filter p ds) → AllByRecursion (λ d. p d ≡ true → P d) ds
unfiltered P p [] h = tt
unfiltered P p (d ∷ ds) h = by (p d) h (unfiltered P p ds)
  where
    by : (b : Bool) → AllByRecursion P (if b then d ∷ filter p ds else filter p ds) → (AllByRecursion P (filter p ds) → AllByRecursion (λ d. p d ≡ true → P d) ds) → (b ≡ true → P d) × AllByRecursion (λ d. p d ≡ true → P d) ds
    by true g k = ((λ q. g.0), k g.1)
    by false g k = ((λ q. absurd (true≢false (sym q))), k g)

filtered : (P : Done → Type 0) (p : Done → Bool) (ds : List Done) → AllByRecursion (λ d. p d ≡ true → P d) ds → AllByRecursion P (filter p ds)
filtered P p [] h = tt
filtered P p (d ∷ ds) h = by (p d) h.0 (filtered P p ds h.1)
  where
    by : (b : Bool) → (b ≡ true → P d) → AllByRecursion P (filter p ds) → AllByRecursion P (if b then d ∷ filter p ds else filter p ds)
    by true g k = (g refl, k)
    by false g k = k

-- ---- the states behind some that are explained and link

record Behind {C : Type 0} (w : Fixed C) (finish : C → List State → Alone) (ds : List Done) : Type 0 where
  as_many : length (serial w.code finish w.text.opening.states (txs_of w (by_place ds))).world ≡ length w.text.opening.states
  states : (a : ℕ) → a < length w.text.opening.states → state_in (serial w.code finish w.text.opening.states (txs_of w (by_place ds))).world a ≡ last_state a (state_in w.text.opening.states a) ds

behind : {C : Type 0} (w : Fixed C) (finish : C → List State → Alone) (ds : List Done) → AllByRecursion (IsExplained w finish) ds → ((a : ℕ) → a < length w.text.opening.states → RivalsRise (visitors a ds)) → ((a : ℕ) → AllByRecursion (λ d. d.reader ≡ true → LeavesIt (d.views a)) ds)
    → ((a : ℕ) → a < length w.text.opening.states → StatesLink a (state_in w.text.opening.states a) ds) → Behind w finish ds
unfolding LinkedFrom
behind w finish ds ex rise still links =
    let explained = all_sorted (IsExplained w finish) ds ex in
    record {
      as_many = serial_length w finish (by_place ds) w.text.opening.states refl explained (λ a l. sorted_links a (state_in w.text.opening.states a) ds (rise a l) (still a) (links a l));
      states = λ a l. serial_states w finish (by_place ds) w.text.opening.states refl explained (λ a l. sorted_links a (state_in w.text.opening.states a) ds (rise a l) (still a) (links a l)) a l ∙ sorted_last a (state_in w.text.opening.states a) ds (rise a l) (still a) (links a l);
    }

-- ---- at the Abort

-- of those that committed before an Abort: who wrote on an actor where the batch has run is past
wrote_past : {C : Type 0} (w : Fixed C) (Of : Tx → C → Type 0) (finish : C → List State → Alone) (k c a : ℕ) (s : Machine C) (h : History) (b : Batch) (d : Done) → AllGood w Of finish s h → Carried s h → is_open b ≡ true → batch_of k s.desk.batches ≡ Some b → (slices_of (OfBatch k) (h.long a) ≡ [] → ⊥)
    → IsThere h.kept h.long d → counts k c d ≡ is_value d.result → (counts k c d ≡ true → d.place.side ≡ 0 → holds (λ b. is_settled b.stage) (batch_of d.place.batch.0 s.desk.batches) ≡ true) → OwnPlace s.book.acts d.who d → wrote_at a d ≡ true → is_past s d.who ≡ true
unfolding Tracked Marked Committed
wrote_past w Of finish k c a s h b d g i opened found n th cd settled own q = by d.who refl own
  where
    came : (came_to a d ≡ true) × ((is_value d.result && not d.reader) ≡ true)
    came = and_parts (came_to a d) (is_value d.result && not d.reader) q

    wrote : (is_value d.result ≡ true) × (not d.reader ≡ true)
    wrote = and_parts (is_value d.result) (not d.reader) came.1

    fresh : is_kept (OfBatch k) h.kept ≡ false
    fresh = (g.good.marked k b found).known ∙ ap not (and_parts (is_formed b.stage) (not b.aborted) opened).0

    good : AllByRecursion (GoodKey a s.desk.batches) (keys_in (h.long a))
    good = subst (AllByRecursion (GoodKey a s.desk.batches)) (g.good.tracked a).stands (good_keys a s.desk.batches (cell_at s a).entries (g.good.from_desk.entries a))

    by : (y : Who) → d.who ≡ y → OwnPlace s.book.acts y d → is_past s y ≡ true
    by (OfBatch j) e o = settled_past w s j g.good.settling (subst (λ z. holds (λ b. is_settled b.stage) (batch_of z s.desk.batches) ≡ true) (ap (λ p. p.batch.0) o) (settled (cd ∙ wrote.0) (ap (λ p. p.side) o)))
    by (OfAct t) e o = act_past (is_past s) h.kept k a t s.desk.batches (h.long a) fresh (gone_past (is_past s) (h.long a) (i.gone a)) (g.good.committed a).front n (g.good.tracked a).in_order good
        (subst (λ y. is_kept y h.kept ≡ true) e (th.known wrote.0 (not-true d.reader wrote.1))) (subst (λ y. is_on y (h.long a) ≡ true) e (th.there a came.0 wrote.0 (not-true d.reader wrote.1)))

-- what is known of each that committed before it
record Before {C : Type 0} (k c : ℕ) (s : Machine C) (h : History) (d : Done) : Type 0 where
  there : IsThere h.kept h.long d
  count : counts k c d ≡ is_value d.result
  settled : counts k c d ≡ true → d.place.side ≡ 0 → holds (λ b. is_settled b.stage) (batch_of d.place.batch.0 s.desk.batches) ≡ true
  own : OwnPlace s.book.acts d.who d

each_before : {C : Type 0} (k c : ℕ) (s : Machine C) (h : History) (ds : List Done) → AllByRecursion (IsThere h.kept h.long) ds → AllByRecursion (λ d. counts k c d ≡ is_value d.result) ds → AllByRecursion (λ d. counts k c d ≡ true → d.place.side ≡ 0 → holds (λ b. is_settled b.stage) (batch_of d.place.batch.0 s.desk.batches) ≡ true) ds
    → AllByRecursion (λ d. OwnPlace s.book.acts d.who d) ds → AllByRecursion (Before k c s h) ds
each_before k c s h [] t i u o = tt
each_before k c s h (d ∷ ds) t i u o = (record { there = t.0; count = i.0; settled = u.0; own = o.0 }, each_before k c s h ds t.1 i.1 u.1 o.1)

all_count : {C : Type 0} (w : Fixed C) (Of : Tx → C → Type 0) (finish : C → List State → Alone) (k c : ℕ) (front : List Event) (b : Batch) → Given w Of finish → IsRun w front → (reached w front).book.next_c ≡ c → is_open b ≡ true → batch_of k (reached w front).desk.batches ≡ Some b → AllByRecursion (λ d. counts k c d ≡ is_value d.result) (history w front).committed
all_count w Of finish k c front b v run nc opened found =
    let i = (higher w Of finish front v run).places in
    both_all _ _ (λ d. counts k c d ≡ is_value d.result) (history w front).committed (λ d x y. side_counts k c d (below_open d.place.batch.0 k (reached w front).desk.batches b found opened x.1) (subst (λ z. IsSided z d.place) nc y)) i.low i.sided

-- the batch is open, and next to commit
at_abort : {C : Type 0} (w : Fixed C) (k : ℕ) (s : Machine C) (b : Batch) → IsAllowed w (Abort k) s → batch_of k s.desk.batches ≡ Some b → (is_open b ≡ true) × (is_next_to_commit k s.desk.batches ≡ true)
unfolding conditions
at_abort w k s b ok found = and_parts (is_open b) (is_next_to_commit k s.desk.batches) (subst (λ o. holds (λ b. is_open b && is_next_to_commit k s.desk.batches) o ≡ true) found ok.0)

-- ---- over every run

is_told : {C : Type 0} → Machine C → Done → Bool
is_told s d = is_over s d.who && is_value d.result

failed_behind : {C : Type 0} (w : Fixed C) (finish : C → List State → Alone) (n k c code : ℕ) (es : List Event) → HasFacts w finish → IsText w.text → 1 ≤ length w.text.opening.states → IsRun w es → FailedAt w finish n k c code es → FailedBehind w finish n k c code es
unfolding LinkedFrom AllThere is_told
failed_behind {C} w finish n k c code es facts text some run r = record {
  front = r.front;
  later = r.later;
  splits = r.splits;
  next_c = r.next_c;
  there = record {
    batch = t.batch;
    pact = t.pact;
    front = t.front;
    rest = t.rest;
    found = t.found;
    splits = t.splits;
    by_tid = t.by_tid;
    tx = t.tx;
    values = t.values;
    fails = t.fails;
    settled = subst (AllByRecursion Settles) (sym own_is) own_settled;
    runs = subst (λ z. map Some (serial w.code finish (serial w.code finish w.text.opening.states (txs_of w (by_place z))).world (map (λ p. tx_at w.text p.tx) pacts)).results ≡ map (λ p. p.result) pacts) (sym own_is) own_runs;
  };
}
  where
    Of : Tx → C → Type 0
    Of = IsRest w.code (IsTxIn w.text)

    v : Given w Of finish
    v = record { text = text; actors = some; facts = facts }

    t : FailsInSerial w finish n k c code (reached w r.front) (history w es).committed
    t = r.there

    whole_run : EachAllowed w (r.front ++ Abort k ∷ r.later) (opening w)
    whole_run = subst (λ z. EachAllowed w z (opening w)) r.splits run

    early : IsRun w r.front × IsAllowed w (Abort k) (reached w r.front)
    early = first_ones w r.front (Abort k) r.later (opening w) whole_run

    stays : StaysBehind k c (reached w r.front) (history w r.front) (reached w es) (history w es)
    stays = subst (λ z. StaysBehind k c (reached w r.front) (history w r.front) (reached w z) (history w z)) (sym r.splits) (stays_behind w k c r.front r.later (opening w) no_history whole_run (settling.opened w text) r.next_c)

    g : AllGood w Of finish (reached w r.front) (history w r.front)
    g = all_good w Of finish r.front v early.0

    i : Carried (reached w r.front) (history w r.front)
    i = carried w Of finish r.front v early.0

    f : OrderFacts w finish (reached w r.front) (history w r.front)
    f = all_facts w Of finish r.front facts text early.0

    opened : (is_open t.batch ≡ true) × (is_next_to_commit k (reached w r.front).desk.batches ≡ true)
    opened = at_abort w k (reached w r.front) t.batch early.1 t.found

    Settles : Done → Type 0
    Settles d = d.place.side ≡ 0 → holds (λ b. is_settled b.stage) (batch_of d.place.batch.0 (reached w r.front).desk.batches) ≡ true

    settled : AllByRecursion Settles (filter (counts k c) (history w r.front).committed)
    settled = subst (AllByRecursion Settles) stays.count t.settled

    before : AllByRecursion (Before k c (reached w r.front) (history w r.front)) (history w r.front).committed
    before = each_before k c (reached w r.front) (history w r.front) (history w r.front).committed i.there (all_count w Of finish k c r.front t.batch v early.0 r.next_c opened.0 t.found) (unfiltered Settles (counts k c) (history w r.front).committed settled) (cases_hold w finish r.front facts text early.0).own_places

    own : List Done
    own = filter (is_told (reached w es)) (history w r.front).committed

    valued : (d : Done) → is_told (reached w es) d ≡ true → is_value d.result ≡ true
    valued d q = (and_parts (is_over (reached w es) d.who) (is_value d.result) q).1

    own_is : filter (counts k c) (told_committed (reached w es) (history w es)) ≡ own
    own_is = swapped (counts k c) (is_told (reached w es)) (history w es).committed
        ∙ (ap (filter (is_told (reached w es))) stays.count
        ∙ no_less (counts k c) (is_told (reached w es)) (history w r.front).committed (weaker (Before k c (reached w r.front) (history w r.front)) (λ d. is_told (reached w es) d ≡ true → counts k c d ≡ true) (history w r.front).committed (λ d b q. b.count ∙ valued d q) before))

    own_settled : AllByRecursion Settles own
    own_settled = filtered Settles (is_told (reached w es)) (history w r.front).committed (weaker (Before k c (reached w r.front) (history w r.front)) (λ d. is_told (reached w es) d ≡ true → Settles d) (history w r.front).committed (λ d b q. b.settled (b.count ∙ valued d q)) before)

    -- ---- the states that they leave

    late : AllGood w Of finish (reached w es) (history w es)
    late = all_good w Of finish es v run

    known : AreKept (history w es).kept (history w r.front).committed
    known = weaker (IsThere (history w r.front).kept (history w r.front).long) (λ d. is_value d.result ≡ true → d.reader ≡ false → is_kept d.who (history w es).kept ≡ true) (history w r.front).committed (λ d j u n. stays.kept d.who (j.known u n)) i.there

    missed : (a : ℕ) → NoneBehind a (is_told (reached w es)) (history w r.front).committed
    missed a = none_behind (is_over (reached w es)) (is_told (reached w es)) a (history w r.front).committed (λ d q. (and_parts (is_over (reached w es) d.who) (is_value d.result) q).0) (λ d q u. false_from_ne_true (is_over (reached w es) d.who) (λ o. true≢false (sym (and_from (is_over (reached w es) d.who) (is_value d.result) o u) ∙ q)))
        (all_over w Of finish (reached w es) (history w es) a (history w r.front).committed late known (past_weaker (is_past (reached w r.front)) (is_past (reached w es)) a (history w r.front).committed stays.past (i.past a)))

    left : Behind w finish own
    left = behind w finish own (all_filter (IsExplained w finish) (is_told (reached w es)) (history w r.front).committed f.explained)
        (λ a l. subst RivalsRise (sym (visitors_filter a (is_told (reached w es)) (history w r.front).committed)) (rise_filter (is_told (reached w es)) (visitors a (history w r.front).committed) (f.rise a l)))
        (λ a. all_filter (λ d. d.reader ≡ true → LeavesIt (d.views a)) (is_told (reached w es)) (history w r.front).committed (f.still a))
        (λ a l. rest_links a (state_in w.text.opening.states a) (is_told (reached w es)) (history w r.front).committed (missed a) (f.still a) (f.linked a l))

    -- where the batch has run, all that wrote there is told
    all_told : (a : ℕ) → (slices_of (OfBatch k) ((history w r.front).long a) ≡ [] → ⊥) → AllByRecursion (λ d. wrote_at a d ≡ true → is_told (reached w es) d ≡ true) (history w r.front).committed
    all_told a m = weaker (Before k c (reached w r.front) (history w r.front)) (λ d. wrote_at a d ≡ true → is_told (reached w es) d ≡ true) (history w r.front).committed (λ d b q. one d b q) before
      where
        one : (d : Done) → Before k c (reached w r.front) (history w r.front) d → wrote_at a d ≡ true → is_told (reached w es) d ≡ true
        one d b q =
            let u = and_parts (is_value d.result) (not d.reader) (and_parts (came_to a d) (is_value d.result && not d.reader) q).1 in
            let past = wrote_past w Of finish k c a (reached w r.front) (history w r.front) t.batch d g i opened.0 t.found m b.there b.count b.settled b.own q in
            and_from (is_over (reached w es) d.who) (is_value d.result) (over w Of finish (reached w es) (history w es) d.who late (stays.kept d.who (b.there.known u.0 (not-true d.reader u.1))) (stays.past d.who past)) u.0

    -- ---- and the PACTs behind them

    pacts : List Pact
    pacts = t.front ++ t.pact ∷ []

    world : List State
    world = (serial w.code finish w.text.opening.states (txs_of w (by_place own))).world

    links : (a : ℕ) → a < length world → StatesLink a (state_in world a) (map (done_pact k (history w r.front)) pacts)
    links a l =
        let m : a < length w.text.opening.states = omega (arith, l, left.as_many) in
        subst (λ z. StatesLink a z (map (done_pact k (history w r.front)) pacts)) (sym (left.states a m))
        (pacts_linked w Of finish k a (reached w r.front) (history w r.front) t.batch t.front t.rest t.pact (last_state a (state_in w.text.opening.states a) own) g.good opened.0 opened.1 t.found t.splits t.values
        (λ n. rest_leaves a (state_in w.text.opening.states a) (is_told (reached w es)) (history w r.front).committed (all_told a n) (f.still a) (f.linked a m)))

    explained : AllByRecursion (IsExplained w finish) (map (done_pact k (history w r.front)) pacts)
    explained = let o = (whole w Of finish r.front v early.0).ordered in pacts_explained w Of finish k (reached w r.front) (history w r.front) t.batch t.front t.rest t.pact code facts opened.0 t.found t.splits t.values t.fails g.good o.named o.matched o.results

    own_runs : map Some (serial w.code finish world (map (λ p. tx_at w.text p.tx) pacts)).results ≡ map (λ p. p.result) pacts
    own_runs = ap (λ z. map Some (serial w.code finish world z).results) (sym (txs_pacts w k (history w r.front) pacts)) ∙ (serial_results w finish (map (done_pact k (history w r.front)) pacts) world left.as_many explained links ∙ results_pacts k (history w r.front) pacts)

pub failures_stand : {C : Type 0} → OfEveryRun (ToldFailuresStand {C = C})
failures_stand {C} w finish es f t run n k c code q = by (length w.text.opening.states) refl ((verdicts_tell w finish es f t run).batch_code n k c code q)
  where
    no_split : (front later : List Event) (e : Event) → [] ≡ front ++ e ∷ later → ⊥
    no_split [] later e q = cc q
    no_split (f ∷ front) later e q = cc q

    none : (es : List Event) → IsRun w es → length w.text.opening.states ≡ 0 → (front later : List Event) (e : Event) → es ≡ front ++ e ∷ later → ⊥
    none [] run l front later e q = no_split front later e q
    none (x ∷ es) run l front later e q = none_allowed w x t l run.0

    by : (m : ℕ) → length w.text.opening.states ≡ m → FailedAt w finish n k c code es → FailedBehind w finish n k c code es
    by (suc m) l r = failed_behind w finish n k c code es f t (omega (arith, l)) run r
    by zero l r = absurd (none es run l r.front r.later (Abort k) r.splits)
