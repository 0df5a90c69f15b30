-- In a quiet state all transactions have been answered, and nothing is left.
use Rattle.std.specs.Prelude.{◌≡◌, refl, ℕ, zero, suc, ◌+◌, ◌<◌, ◌≤◌, ◌%◌, ◌==◌, not, Bool, true, false, ◌&&◌, ◌||◌, if◌then◌else◌, ◌⊎◌, Option, Some, None, is_some, List, [], ◌∷◌, ◌++◌, length, map, filter, find, slice_get}
use Rattle.std.specs.List.{AllByRecursion, list_all}
use Rattle.std.proofs.Common.{arith, sym, ap, subst, inl, inr, ◌∙◌}
use Rattle.std.proofs.lemmas.Bool.{and_parts, true≢false, eq-eqb, lt-ltb, cases_Bool, cases_lt}
use Rattle.snap_base.specs.declared.transactions.TxResult.{TxResult}
use Rattle.snap_base.specs.declared.transactions.TxResult.TheVariants.{Value, Fail}
use Rattle.snap_base.specs.declared.verdicts.Place.{Place}
use Rattle.snap_base.proofs.Lists.{each_found}
use Rattle.protocol.specs.Fixed.{Fixed}
use Rattle.protocol.specs.Parts.{Act, Batch, Cascade, Pact, Status, Live, Doomed, Decided, Sealed, Stage, Formed, Committing, Settled, SubBatch, Entry, BatchEntry, ActEntry, Machine}
use Rattle.protocol.specs.Events.{Submit, Pass, Form, Admit, Reply}
use Rattle.protocol.specs.Words.{is_empty, is_among, count, is_aborted, covers, is_doomed, is_sealed, is_settled, is_live_batch, is_live_act, act_of, batch_of, sub_of, has_act, batches_on}
use Rattle.protocol.specs.Conditions.{conditions, queue, is_idle}
use Rattle.protocol.specs.Effects.{cell_at}
use Rattle.protocol.specs.Numbers.{flat, times, one_if}
use Rattle.protocol.specs.Verdicts.{verdict, verdict_of_pact, verdict_in_batch, verdict_of_act, pact_verdict, act_verdict, settled_verdict, ended_at, or_else, pact_place, act_place}
use Rattle.protocol.specs.Runs.{IsQuiet}
use Rattle.protocol_theorems.specs.Quiet.{Orderly, Whole, AllAnswered, is_over_batch, is_over_act}
use Rattle.protocol_laws.proofs.first.Times
use Rattle.protocol_theorems.proofs.quiet.QuietEasy
use Rattle.protocol_theorems.proofs.quiet.QuietEasy.{passes, list_all_of, false_not, synced, up_to_date, no_aborted_sub, all_left, doomed_is_over}
use Rattle.protocol_theorems.proofs.quiet.QuietBatch.{open_live, act_stands, trimmed_settled}
use Rattle.protocol_theorems.proofs.quiet.QuietOrder.{no_live_batch, no_waiting_act}

-- ---- batches and ACTs are over

over_batch : {C : Type 0} (w : Fixed C) (s : Machine C) → IsQuiet w s → Orderly w s → (k : ℕ) (b : Batch) → batch_of k s.desk.batches ≡ Some b → is_over_batch b ≡ true
over_batch w s q o k b e = by b.aborted refl (list_all (λ p. p.trimmed) b.places) refl
  where
    by : (x : Bool) → b.aborted ≡ x → (y : Bool) → list_all (λ p. p.trimmed) b.places ≡ y → (x || (is_settled b.stage && y)) ≡ true
    by true i y j = refl
    by false i true j = rw (trimmed_settled w s k b o e j) refl
    by false i false j = absurd (no_live_batch w s q o k (passes is_live_batch (batch_of k s.desk.batches) b e (rw (i, j) refl)))

over_act : {C : Type 0} (w : Fixed C) (s : Machine C) → IsQuiet w s → Orderly w s → (t : ℕ) (x : Act) → act_of t s.book.acts ≡ Some x → (is_doomed x.status || is_sealed x.status) ≡ true
over_act w s q o t x e = by (is_live_act x) refl (is_doomed x.status) refl
  where
    by : (a : Bool) → is_live_act x ≡ a → (d : Bool) → is_doomed x.status ≡ d → (d || is_sealed x.status) ≡ true
    by a i true j = refl
    by true i false j = absurd (no_waiting_act w s q o t x e (rw (i, j) refl))
    by false i false j = let h = o.acts.over t x e i in two (is_sealed x.status) j h
      where
        two : (z : Bool) → is_doomed x.status ≡ false → (is_doomed x.status || z) ≡ true → z ≡ true
        two true j h = refl
        two false j h = absurd (true≢false (sym h ∙ rw j refl))

not_live : {C : Type 0} (w : Fixed C) (s : Machine C) → IsQuiet w s → Orderly w s → (t : ℕ) (x : Act) → act_of t s.book.acts ≡ Some x → is_live_act x ≡ true → ⊥
not_live w s q o t x e l = by (is_doomed x.status) refl
  where
    by : (d : Bool) → is_doomed x.status ≡ d → ⊥
    by true j = true≢false (sym l ∙ doomed_is_over w s q o.found t x e j)
    by false j = no_waiting_act w s q o t x e (rw (l, j) refl)

-- ---- the queues

none_pass : {X : Type 0} (f : X → Bool) (xs : List X) → ((i : ℕ) (x : X) → slice_get xs i ≡ Some x → f x ≡ true → ⊥) → count f xs ≡ 0
none_pass f [] h = refl
none_pass f (x ∷ xs) h = by (f x) refl (none_pass f xs (λ i. h (suc i)))
  where
    by : (b : Bool) → f x ≡ b → count f xs ≡ 0 → length (if b then x ∷ filter f xs else filter f xs) ≡ 0
    by true e k = absurd (h zero x refl e)
    by false e k = k

no_live_batches : {C : Type 0} (w : Fixed C) (s : Machine C) → IsQuiet w s → Orderly w s → count is_live_batch s.desk.batches ≡ 0
no_live_batches w s q o = none_pass is_live_batch s.desk.batches (λ i b g l. no_live_batch w s q o b.bid (passes is_live_batch (batch_of b.bid s.desk.batches) b (each_found (λ b. batch_of b.bid s.desk.batches ≡ Some b) s.desk.batches i b g o.found.batches) l))

no_live_acts : {C : Type 0} (w : Fixed C) (s : Machine C) → IsQuiet w s → Orderly w s → count is_live_act s.book.acts ≡ 0
no_live_acts w s q o = none_pass is_live_act s.book.acts (λ i x g l. not_live w s q o x.tid x (each_found (λ x. act_of x.tid s.book.acts ≡ Some x) s.book.acts i x g o.found.acts) l)

pub idle : {C : Type 0} (w : Fixed C) (s : Machine C) → IsQuiet w s → Orderly w s → Whole w s → is_idle s.ring ≡ true
unfolding conditions
idle w s q o v = elim (cases_Bool (is_idle s.ring)) [
  | inl h ↦ h
  | inr h ↦ absurd (q (Pass ((s.ring.holder + 1) % w.text.coordinators)) (eq-eqb _ ((s.ring.holder + 1) % w.text.coordinators) refl, (rw (pacts, acts) refl, (false_not (is_idle s.ring) h, tt))))
]
  where
    pacts : is_empty (queue s.ring.pacts s.ring.holder) ≡ true
    pacts = elim (cases_Bool (is_empty (queue s.ring.pacts s.ring.holder))) [
      | inl h ↦ h
      | inr h ↦ absurd (q (Form s.ring.next_bid) (eq-eqb s.ring.next_bid s.ring.next_bid refl, (false_not (is_empty (queue s.ring.pacts s.ring.holder)) h, (lt-ltb (count is_live_batch s.desk.batches) w.text.batches (omega (arith, no_live_batches w s q o, v.text.some_batches)), tt))))
    ]

    acts : is_empty (queue s.ring.acts s.ring.holder) ≡ true
    acts = elim (cases_Bool (is_empty (queue s.ring.acts s.ring.holder))) [
      | inl h ↦ h
      | inr h ↦ absurd (q (Admit s.ring.next_tid) (eq-eqb s.ring.next_tid s.ring.next_tid refl, (false_not (is_empty (queue s.ring.acts s.ring.holder)) h, (lt-ltb (count is_live_act s.book.acts) w.text.acts (omega (arith, no_live_acts w s q o, v.text.some_acts)), tt))))
    ]

pub all_submitted : {C : Type 0} (w : Fixed C) (s : Machine C) → IsQuiet w s → Whole w s → s.ring.next_tx ≡ length w.text.txs
unfolding conditions
all_submitted w s q v = elim (cases_lt s.ring.next_tx (length w.text.txs)) [
  | inl h ↦ absurd (q (Submit s.ring.next_tx) (rw (eq-eqb s.ring.next_tx s.ring.next_tx refl, lt-ltb s.ring.next_tx (length w.text.txs) h) refl, tt))
  | inr h ↦ omega (arith, h, v.few)
]

-- ---- verdicts

none_in : (xss : List (List ℕ)) → list_all is_empty xss ≡ true → flat xss ≡ []
none_in [] h = refl
none_in ([] ∷ xss) h = none_in xss h
none_in ((x ∷ xs) ∷ xss) h = absurd (true≢false (sym h))

either_some : {X : Type 0} (x y : Option X) → (is_some x ≡ true) ⊎ (is_some y ≡ true) → is_some (or_else x y) ≡ true
either_some None y (inl h) = absurd (true≢false (sym h))
either_some None y (inr h) = h
either_some (Some x) y h = refl

in_batch : (cs : List Cascade) (n : ℕ) (b : Batch) (ps : List Pact) → AllByRecursion (λ p. is_some (pact_verdict (find (covers b.bid) cs) b p) ≡ true) ps → 1 ≤ times n (map (λ p. p.tx) ps) → is_some (verdict_in_batch cs n b ps) ≡ true
in_batch cs n b [] h l = absurd (omega (arith, l))
in_batch cs n b (p ∷ ps) h l = by (p.tx == n) (le (Times.times_cons n p.tx (map (λ p. p.tx) ps)) l) (in_batch cs n b ps h.1)
  where
    le : {x y : ℕ} → x ≡ y → 1 ≤ x → 1 ≤ y
    le e k = omega (arith, e, k)

    by : (c : Bool) → 1 ≤ one_if c + times n (map (λ p. p.tx) ps) → (1 ≤ times n (map (λ p. p.tx) ps) → is_some (verdict_in_batch cs n b ps) ≡ true) → is_some (if c then pact_verdict (find (covers b.bid) cs) b p else verdict_in_batch cs n b ps) ≡ true
    by true k r = h.0
    by false k r = r (omega (arith, k))

of_pact : (cs : List Cascade) (n : ℕ) (bs : List Batch) → AllByRecursion (λ b. AllByRecursion (λ p. is_some (pact_verdict (find (covers b.bid) cs) b p) ≡ true) b.pacts) bs → 1 ≤ times n (flat (map (λ b. map (λ p. p.tx) b.pacts) bs)) → is_some (verdict_of_pact cs n bs) ≡ true
of_pact cs n [] h l = absurd (omega (arith, l))
of_pact cs n (b ∷ bs) h l = either_some (verdict_in_batch cs n b b.pacts) (verdict_of_pact cs n bs) (by (cases_lt 0 (times n (map (λ p. p.tx) b.pacts))) (of_pact cs n bs h.1))
  where
    by : (0 < times n (map (λ p. p.tx) b.pacts)) ⊎ (times n (map (λ p. p.tx) b.pacts) ≤ 0) → (1 ≤ times n (flat (map (λ b. map (λ p. p.tx) b.pacts) bs)) → is_some (verdict_of_pact cs n bs) ≡ true) → (is_some (verdict_in_batch cs n b b.pacts) ≡ true) ⊎ (is_some (verdict_of_pact cs n bs) ≡ true)
    by (inl k) r = inl (in_batch cs n b b.pacts h.0 (omega (arith, k)))
    by (inr k) r = inr (r (omega (arith, k, l, Times.times_append n (map (λ p. p.tx) b.pacts) (flat (map (λ b. map (λ p. p.tx) b.pacts) bs)))))

of_act : (n : ℕ) (xs : List Act) → AllByRecursion (λ x. is_some (act_verdict x.status x.m x.result) ≡ true) xs → 1 ≤ times n (map (λ x. x.tx) xs) → is_some (verdict_of_act n xs) ≡ true
of_act n [] h l = absurd (omega (arith, l))
of_act n (x ∷ xs) h l = by (x.tx == n) (le (Times.times_cons n x.tx (map (λ x. x.tx) xs)) l) (of_act n xs h.1)
  where
    le : {x y : ℕ} → x ≡ y → 1 ≤ x → 1 ≤ y
    le e k = omega (arith, e, k)

    by : (c : Bool) → 1 ≤ one_if c + times n (map (λ x. x.tx) xs) → (1 ≤ times n (map (λ x. x.tx) xs) → is_some (verdict_of_act n xs) ≡ true) → is_some (if c then act_verdict x.status x.m x.result else verdict_of_act n xs) ≡ true
    by true k r = h.0
    by false k r = r (omega (arith, k))

pub has_ended : (p : Place) (r : Option TxResult) → is_some r ≡ true → is_some (ended_at p r) ≡ true
has_ended p None h = absurd (true≢false (sym h))
has_ended p (Some (Value v)) h = refl
has_ended p (Some (Fail c)) h = refl

some_cover : (k : ℕ) (cs : List Cascade) → is_aborted k cs ≡ true → is_some (find (covers k) cs) ≡ true
some_cover k [] h = absurd (true≢false (sym h))
some_cover k (c ∷ cs) h = by (covers k c) h (some_cover k cs)
  where
    by : (b : Bool) → (b || is_aborted k cs) ≡ true → (is_aborted k cs ≡ true → is_some (find (covers k) cs) ≡ true) → is_some (if b then Some c else find (covers k) cs) ≡ true
    by true g r = refl
    by false g r = r g

pub each_at : {X : Type 0} (P : X → Type 0) (xs : List X) → ((i : ℕ) (x : X) → slice_get xs i ≡ Some x → P x) → AllByRecursion P xs
each_at P [] h = tt
each_at P (x ∷ xs) h = (h zero x refl, each_at P xs (λ i. h (suc i)))

pact_has_verdict : {C : Type 0} (w : Fixed C) (s : Machine C) → IsQuiet w s → Orderly w s → Whole w s → (b : Batch) → batch_of b.bid s.desk.batches ≡ Some b → AllByRecursion (λ p. is_some (pact_verdict (find (covers b.bid) s.book.cascades) b p) ≡ true) b.pacts
pact_has_verdict w s q o v b e = each_at (λ p. is_some (pact_verdict (find (covers b.bid) s.book.cascades) b p) ≡ true) b.pacts (λ i p g. by i p g (find (covers b.bid) s.book.cascades) refl)
  where
    stage : (p : Pact) (st : Stage) → is_settled st ≡ true → is_some p.result ≡ true → is_some (settled_verdict st (pact_place b.bid p.tid) p.result) ≡ true
    stage p Formed h r = absurd (true≢false (sym h))
    stage p Committing h r = absurd (true≢false (sym h))
    stage p Settled h r = has_ended (pact_place b.bid p.tid) p.result r

    settled : b.aborted ≡ false → is_settled b.stage ≡ true
    settled n = let h : (false || (is_settled b.stage && list_all (λ p. p.trimmed) b.places)) ≡ true = subst (λ z. (z || (is_settled b.stage && list_all (λ p. p.trimmed) b.places)) ≡ true) n (over_batch w s q o b.bid b e) in (and_parts (is_settled b.stage) (list_all (λ p. p.trimmed) b.places) h).0

    by : (i : ℕ) (p : Pact) → slice_get b.pacts i ≡ Some p → (c : Option Cascade) → find (covers b.bid) s.book.cascades ≡ c → is_some (pact_verdict c b p) ≡ true
    by i p g (Some c) h = refl
    by i p g None h =
        let n : is_aborted b.bid s.book.cascades ≡ false = elim (cases_Bool (is_aborted b.bid s.book.cascades)) [ inl a ↦ absurd (true≢false (sym (some_cover b.bid s.book.cascades a) ∙ ap is_some h)) | inr a ↦ a ] in
        let t = settled (o.batches.marked b.bid b e ∙ n) in
        stage p b.stage t (each_found (λ p. is_some p.result ≡ true) b.pacts i p g (v.results b.bid b e t))

act_has_verdict : {C : Type 0} (w : Fixed C) (s : Machine C) → IsQuiet w s → Orderly w s → Whole w s → (x : Act) → act_of x.tid s.book.acts ≡ Some x → is_some (act_verdict x.status x.m x.result) ≡ true
act_has_verdict w s q o v x e = by x.status refl (over_act w s q o x.tid x e)
  where
    by : (st : Status) → x.status ≡ st → (is_doomed x.status || is_sealed x.status) ≡ true → is_some (act_verdict st x.m x.result) ≡ true
    by Live i h = absurd (true≢false (sym h ∙ rw i refl))
    by (Doomed d) i h = refl
    by (Decided c) i h = absurd (true≢false (sym h ∙ rw i refl))
    by (Sealed c) i h = has_ended (act_place x.m c) x.result (v.sealed x.tid x e (ap is_sealed i))

pub has_verdict : {C : Type 0} (w : Fixed C) (s : Machine C) → IsQuiet w s → Orderly w s → Whole w s → (n : ℕ) → n < length w.text.txs → is_some (verdict n s.book s.desk) ≡ true
has_verdict w s q o v n l =
    either_some (verdict_of_pact s.book.cascades n s.desk.batches) (verdict_of_act n s.book.acts) (by (cases_lt 0 (times n (flat (map (λ b. map (λ p. p.tx) b.pacts) s.desk.batches)))))
  where
    empty : (flat s.ring.pacts ≡ []) × (flat s.ring.acts ≡ [])
    empty = let p = and_parts (list_all is_empty s.ring.pacts) (list_all is_empty s.ring.acts) (idle w s q o v) in (none_in s.ring.pacts p.0, none_in s.ring.acts p.1)

    one : times n (flat (map (λ b. map (λ p. p.tx) b.pacts) s.desk.batches)) + times n (map (λ x. x.tx) s.book.acts) ≡ 1
    one = omega (
      arith,
      v.once n,
      Times.once_inside 0 s.ring.next_tx n (omega arith) (omega (arith, l, all_submitted w s q v)),
      Times.times_append n (flat s.ring.pacts ++ flat s.ring.acts) (flat (map (λ b. map (λ p. p.tx) b.pacts) s.desk.batches) ++ map (λ x. x.tx) s.book.acts),
      Times.times_append n (flat s.ring.pacts) (flat s.ring.acts),
      ap (times n) empty.0,
      ap (times n) empty.1,
      Times.times_append n (flat (map (λ b. map (λ p. p.tx) b.pacts) s.desk.batches)) (map (λ x. x.tx) s.book.acts),
    )

    by : (0 < times n (flat (map (λ b. map (λ p. p.tx) b.pacts) s.desk.batches))) ⊎ (times n (flat (map (λ b. map (λ p. p.tx) b.pacts) s.desk.batches)) ≤ 0) → (is_some (verdict_of_pact s.book.cascades n s.desk.batches) ≡ true) ⊎ (is_some (verdict_of_act n s.book.acts) ≡ true)
    by (inl k) = inl (of_pact s.book.cascades n s.desk.batches (each_at _ s.desk.batches (λ i b g. pact_has_verdict w s q o v b (each_found (λ b. batch_of b.bid s.desk.batches ≡ Some b) s.desk.batches i b g o.found.batches))) (omega (arith, k)))
    by (inr k) = inr (of_act n s.book.acts (each_at _ s.book.acts (λ i x g. act_has_verdict w s q o v x (each_found (λ x. act_of x.tid s.book.acts ≡ Some x) s.book.acts i x g o.found.acts))) (omega (arith, k, one)))

-- ---- replies

get_below : {X : Type 0} (xs : List X) (i : ℕ) (x : X) → slice_get xs i ≡ Some x → i < length xs
get_below [] i x e = absurd (cc e)
get_below (y ∷ xs) zero x e = omega arith
get_below (y ∷ xs) (suc i) x e = omega (arith, get_below xs i x e)

pub all_replied : {C : Type 0} (w : Fixed C) (s : Machine C) → IsQuiet w s → Orderly w s → Whole w s → list_all (λ r. r) s.desk.replied ≡ true
unfolding conditions
all_replied w s q o v = list_all_of (λ r. r) s.desk.replied (λ n r g f. q (Reply n) (passes not (slice_get s.desk.replied n) r g (false_not r f), (has_verdict w s q o v n (omega (arith, get_below s.desk.replied n r g, v.replies)), tt)))

-- ---- nothing lies about

no_subs : {C : Type 0} (w : Fixed C) (s : Machine C) → IsQuiet w s → Orderly w s → s.post.subs ≡ []
no_subs w s q o = by s.post.subs refl
  where
    by : (ms : List SubBatch) → s.post.subs ≡ ms → ms ≡ []
    by [] e = refl
    by (m ∷ ms) e =
        let h : is_some (sub_of m.bid m.actor s.post.subs) ≡ true = subst (λ z. is_some (sub_of m.bid m.actor z) ≡ true) (sym e) (rw (eq-eqb m.bid m.bid refl, eq-eqb m.actor m.actor refl) refl) in
        let v = no_aborted_sub w s q m.bid m.actor h in absurd (no_live_batch w s q o m.bid (open_live w s o m.bid m.actor v (o.batches.on_way m.bid m.actor v h)))

no_entries : {C : Type 0} (w : Fixed C) (s : Machine C) → IsQuiet w s → Orderly w s → (a : ℕ) → a < length s.cells → (cell_at s a).entries ≡ []
no_entries w s q o a r = by (cell_at s a).entries refl
  where
    by : (es : List Entry) → (cell_at s a).entries ≡ es → es ≡ []
    by [] e = refl
    by (BatchEntry b ∷ es) e =
        let on : is_among b.bid (batches_on (cell_at s a).entries) ≡ true = subst (λ z. is_among b.bid (batches_on z) ≡ true) (sym e) (rw (eq-eqb b.bid b.bid refl) refl) in
        let v = o.batches.present a b.bid (up_to_date w s q a r (o.batches.behind a)) on in absurd (no_live_batch w s q o b.bid (open_live w s o b.bid a v (o.batches.on_schedule b.bid a v on)))
    by (ActEntry z ∷ es) e =
        let x = act_stands w s q o z.tid a (subst (λ v. has_act z.tid v ≡ true) (sym e) (rw (eq-eqb z.tid z.tid refl) refl)) in
        absurd (no_waiting_act w s q o z.tid x.0 x.1 x.2)

-- A quiet state has answered all.
pub quiet_is_answered : {C : Type 0} (w : Fixed C) (s : Machine C) → IsQuiet w s → Orderly w s → Whole w s → AllAnswered w s
quiet_is_answered w s q o v = record {
  submitted = all_submitted w s q v;
  queues = idle w s q o v;
  replied = all_replied w s q o v;
  batches = list_all_of is_over_batch s.desk.batches (λ i b g n. true≢false (sym (over_batch w s q o b.bid b (each_found (λ b. batch_of b.bid s.desk.batches ≡ Some b) s.desk.batches i b g o.found.batches)) ∙ n));
  acts = list_all_of is_over_act s.book.acts (λ i x g n. true≢false (sym (act x (each_found (λ x. act_of x.tid s.book.acts ≡ Some x) s.book.acts i x g o.found.acts)) ∙ n));
  synced = synced w s q;
  subs = no_subs w s q o;
  outboxes = QuietEasy.empty_outbox w s q;
  entries = no_entries w s q o;
}
  where
    act : (x : Act) → act_of x.tid s.book.acts ≡ Some x → is_over_act x ≡ true
    act x e = let h = over_act w s q o x.tid x e in rw (h, all_left w s q o.found x.tid x e h) refl
