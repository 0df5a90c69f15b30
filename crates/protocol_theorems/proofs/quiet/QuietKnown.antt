-- What of the hypotheses on quiet states is known after every run.
use Rattle.std.specs.Prelude.{◌≡◌, refl, ℕ, zero, suc, ◌+◌, ◌<◌, ◌≤◌, ◌==◌, nat_lt, not, Bool, true, false, ◌&&◌, ◌||◌, if◌then◌else◌, Some, is_some, List, [], ◌∷◌, length, map, filter, find, slice_get, slice_index_or}
use Rattle.std.specs.List.{AllByRecursion, list_any}
use Rattle.std.proofs.Common.{arith, sym, ap, subst, inl, inr, ◌∙◌}
use Rattle.std.proofs.lemmas.List.{length-replicate}
use Rattle.std.proofs.lemmas.Bool.{and_parts, true≢false, eqb-true, eq-eqb, ltb-true, le-leb, cases_lt, not-true}
use Rattle.snap_base.proofs.Lists.{each_found}
use Rattle.protocol.specs.Fixed.{Fixed}
use Rattle.protocol.specs.Parts.{Act, Batch, Cascade, Pact, Stage, Formed, Committing, Settled, SubBatch, Cell, Machine}
use Rattle.protocol.specs.Events.{Event, Submit, Reply}
use Rattle.protocol.specs.Words.{holds, is_among, covers, is_aborted, epoch_of, greatest, is_formed, is_settled, act_of, batch_of, sub_of, names_pact, result_among, pact_result, batches_on}
use Rattle.protocol.specs.Conditions.{IsAllowed, conditions, epoch}
use Rattle.protocol.specs.Effects.{after, cell_at, no_cell}
use Rattle.protocol.specs.Numbers.{flat, times, one_if, NumbersDrawnOnce}
use Rattle.protocol.specs.Epochs.{EpochsAgree, NamesItsPlace, CellAgrees, CellsAgree}
use Rattle.protocol.specs.Settling.{AllOverBelow, BatchesSettleInOrder}
use Rattle.protocol.specs.Runs.{opening, IsRun, reached}
use Rattle.protocol_laws.proofs.first.Along.{along}
use Rattle.protocol_laws.proofs.first.Times
use Rattle.protocol_laws.proofs.first.Drawn as drawn
use Rattle.protocol_laws.proofs.machine.MarksKept.{found_bid}
use Rattle.protocol_laws.proofs.machine.RunOwed as owes
use Rattle.protocol_laws.proofs.first.EpochsKept as epochs
use Rattle.protocol_theorems.proofs.quiet.QuietEasy.{any_at, found_at}
use Rattle.protocol_theorems.proofs.quiet.QuietEnd.{each_at}
use Rattle.protocol_laws.proofs.machine.ActsFound.{found_tid}
use Rattle.protocol_laws.proofs.machine.TurnsKept.{one_is}
use Rattle.protocol_theorems.proofs.sets.AfterSets.{among_all}
use Rattle.protocol_theorems.proofs.quiet.LeftFalls.{once_most}

-- ---- who has a number of its own is found by it

pub some_times : {X : Type 0} (g : X → ℕ) (xs : List X) (i : ℕ) (x : X) → slice_get xs i ≡ Some x → 1 ≤ times (g x) (map g xs)
some_times g [] i x e = absurd (cc e)
some_times g (y ∷ xs) zero x e = let q : y ≡ x = cc e in omega (arith, Times.times_cons (g x) (g y) (map g xs), ap one_if (eq-eqb (g y) (g x) (ap g q)))
some_times g (y ∷ xs) (suc i) x e = omega (arith, Times.times_cons (g x) (g y) (map g xs), some_times g xs i x e)

pub not_one : (b : Bool) → one_if b ≤ 0 → b ≡ false
not_one true l = absurd (omega (arith, l))
not_one false l = refl

pub found_once : {X : Type 0} (g : X → ℕ) (xs : List X) → ((n : ℕ) → times n (map g xs) ≤ 1) → (i : ℕ) (x : X) → slice_get xs i ≡ Some x → find (λ y. g y == g x) xs ≡ Some x
found_once g [] h i x e = absurd (cc e)
found_once g (y ∷ xs) h zero x e = let q : y ≡ x = cc e in rw (eq-eqb (g y) (g x) (ap g q)) e
found_once g (y ∷ xs) h (suc i) x e =
    let n : (g y == g x) ≡ false = not_one (g y == g x) (omega (arith, h (g x), Times.times_cons (g x) (g y) (map g xs), some_times g xs i x e)) in
    rw n (found_once g xs (λ n. omega (arith, h n, Times.times_cons n (g y) (map g xs))) i x e)

-- ---- PACTs have their results

never_named : (t : ℕ) (ps : List Pact) → times t (map (λ p. p.tid) ps) ≡ 0 → list_any (λ p. p.tid == t) ps ≡ false
never_named t [] h = refl
never_named t (p ∷ ps) h = let e = Times.times_cons t p.tid (map (λ p. p.tid) ps) in rw (not_one (p.tid == t) (omega (arith, e, h)), never_named t ps (omega (arith, e, h))) refl

own_result : (ps : List Pact) (i : ℕ) (p : Pact) → ((n : ℕ) → times n (map (λ p. p.tid) ps) ≤ 1) → slice_get ps i ≡ Some p → result_among p.tid ps ≡ p.result
own_result [] i p h e = absurd (cc e)
own_result (x ∷ ps) zero p h e = let q : x ≡ p = cc e in rw (eq-eqb x.tid p.tid (ap (λ z. z.tid) q)) (ap (λ z. z.result) q)
own_result (x ∷ ps) (suc i) p h e =
    let n : (x.tid == p.tid) ≡ false = not_one (x.tid == p.tid) (omega (arith, h p.tid, Times.times_cons p.tid x.tid (map (λ p. p.tid) ps), some_times (λ p. p.tid) ps i p e)) in
    rw n (own_result ps i p (λ n. omega (arith, h n, Times.times_cons n x.tid (map (λ p. p.tid) ps))) e)

in_flat : (bs : List Batch) (j : ℕ) (b : Batch) (n : ℕ) → slice_get bs j ≡ Some b → times n (map (λ p. p.tid) b.pacts) ≤ times n (flat (map (λ b. map (λ p. p.tid) b.pacts) bs))
in_flat [] j b n e = absurd (cc e)
in_flat (x ∷ bs) zero b n e = let q : x ≡ b = cc e in omega (arith, Times.times_append n (map (λ p. p.tid) x.pacts) (flat (map (λ b. map (λ p. p.tid) b.pacts) bs)), ap (λ z. times n (map (λ p. p.tid) z.pacts)) q)
in_flat (x ∷ bs) (suc j) b n e = omega (arith, Times.times_append n (map (λ p. p.tid) x.pacts) (flat (map (λ b. map (λ p. p.tid) b.pacts) bs)), in_flat bs j b n e)

pub result_is : (bs : List Batch) (j i : ℕ) (b : Batch) (p : Pact) → ((n : ℕ) → times n (flat (map (λ b. map (λ p. p.tid) b.pacts) bs)) ≤ 1) → slice_get bs j ≡ Some b → slice_get b.pacts i ≡ Some p → pact_result p.tid bs ≡ p.result
result_is [] j i b p h e f = absurd (cc e)
result_is (x ∷ bs) zero i b p h e f =
    let q : x ≡ b = cc e in
    let f' = subst (λ z. slice_get z.pacts i ≡ Some p) (sym q) f in
    rw (any_at (λ y. y.tid == p.tid) x.pacts i p f' (eq-eqb p.tid p.tid refl)) (own_result x.pacts i p (λ n. omega (arith, h n, Times.times_append n (map (λ p. p.tid) x.pacts) (flat (map (λ b. map (λ p. p.tid) b.pacts) bs)))) f')
result_is (x ∷ bs) (suc j) i b p h e f =
    let a = Times.times_append p.tid (map (λ p. p.tid) x.pacts) (flat (map (λ b. map (λ p. p.tid) b.pacts) bs)) in
    rw (never_named p.tid x.pacts (omega (arith, h p.tid, a, in_flat bs j b p.tid e, some_times (λ p. p.tid) b.pacts i p f)))
    (result_is bs j i b p (λ n. omega (arith, h n, Times.times_append n (map (λ p. p.tid) x.pacts) (flat (map (λ b. map (λ p. p.tid) b.pacts) bs)))) e f)

-- ---- numbers

-- each is found by its number
pub record Numbered {C : Type 0} (s : Machine C) : Type 0 where
  pub batches : AllByRecursion (λ b. batch_of b.bid s.desk.batches ≡ Some b) s.desk.batches
  pub acts : AllByRecursion (λ x. act_of x.tid s.book.acts ≡ Some x) s.book.acts
  pub results : (k : ℕ) (b : Batch) → batch_of k s.desk.batches ≡ Some b → AllByRecursion (λ p. (pact_result p.tid s.desk.batches ≡ p.result) × (names_pact p.tid b ≡ true)) b.pacts
  pub tids : (t : ℕ) (x : Act) → act_of t s.book.acts ≡ Some x → t < s.ring.next_tid

pub numbered : {C : Type 0} (w : Fixed C) (s : Machine C) → NumbersDrawnOnce w s → Numbered s
numbered w s d = record {
  batches = each_at (λ b. batch_of b.bid s.desk.batches ≡ Some b) s.desk.batches (found_once (λ b. b.bid) s.desk.batches (λ n. bids n));
  acts = each_at (λ x. act_of x.tid s.book.acts ≡ Some x) s.book.acts (found_once (λ x. x.tid) s.book.acts acts);
  results = λ k b e. let j = found_at (λ b. b.bid == k) s.desk.batches b e in each_at (λ p. (pact_result p.tid s.desk.batches ≡ p.result) × (names_pact p.tid b ≡ true)) b.pacts (λ i p f. (result_is s.desk.batches j.0 i b p pacts j.1 f, any_at (λ y. y.tid == p.tid) b.pacts i p f (eq-eqb p.tid p.tid refl)));
  tids = tids;
}
  where
    parts : (n : ℕ) → times n (flat (map (λ b. map (λ p. p.tid) b.pacts) s.desk.batches)) + times n (map (λ x. x.tid) s.book.acts) ≤ 1
    parts n = omega (arith, d.tids n, Times.times_append n (flat (map (λ b. map (λ p. p.tid) b.pacts) s.desk.batches)) (map (λ x. x.tid) s.book.acts), once_most w.text.opening.next_tid s.ring.next_tid n)

    acts : (n : ℕ) → times n (map (λ x. x.tid) s.book.acts) ≤ 1
    acts n = omega (arith, parts n)

    pacts : (n : ℕ) → times n (flat (map (λ b. map (λ p. p.tid) b.pacts) s.desk.batches)) ≤ 1
    pacts n = omega (arith, parts n)

    bids : (n : ℕ) → times n (map (λ b. b.bid) s.desk.batches) ≤ 1
    bids n = omega (arith, ap (times n) d.bids, Times.times_from w.text.opening.next_bid (length s.desk.batches) n, once_most w.text.opening.next_bid (w.text.opening.next_bid + length s.desk.batches) n)

    tids : (t : ℕ) (x : Act) → act_of t s.book.acts ≡ Some x → t < s.ring.next_tid
    tids t x e =
        let i = found_at (λ x. x.tid == t) s.book.acts x e in
        let q = found_tid t x s.book.acts e in
        let o : 1 ≤ times t (map (λ x. x.tid) s.book.acts) = subst (λ z. 1 ≤ times z (map (λ x. x.tid) s.book.acts)) q (some_times (λ x. x.tid) s.book.acts i.0 x i.1) in
        elim (cases_lt t s.ring.next_tid) [
          | inl l ↦ l
          | inr l ↦ absurd (omega (arith, o, d.tids t, Times.times_append t (flat (map (λ b. map (λ p. p.tid) b.pacts) s.desk.batches)) (map (λ x. x.tid) s.book.acts), Times.once_from w.text.opening.next_tid s.ring.next_tid t l))
        ]

-- ---- epochs and settling

pub bid_is : {C : Type 0} (s : Machine C) (k : ℕ) (b : Batch) → batch_of k s.desk.batches ≡ Some b → b.bid ≡ k
bid_is s k b e = eqb-true b.bid k (found_bid k b s.desk.batches e)

pub mark : {C : Type 0} (w : Fixed C) (s : Machine C) → BatchesSettleInOrder w s → (k : ℕ) (b : Batch) → batch_of k s.desk.batches ≡ Some b → b.aborted ≡ is_aborted k s.book.cascades
mark w s g k b e = let i = found_at (λ b. b.bid == k) s.desk.batches b e in each_found (λ b. b.aborted ≡ is_aborted b.bid s.book.cascades) s.desk.batches i.0 b i.1 g.marked ∙ ap (λ z. is_aborted z s.book.cascades) (bid_is s k b e)

most : (ns : List ℕ) (i n : ℕ) → slice_get ns i ≡ Some n → n ≤ greatest ns
most [] i n e = absurd (cc e)
most (x ∷ ns) zero n e = let q : x ≡ n = cc e in omega (arith, q)
most (x ∷ ns) (suc i) n e = omega (arith, most ns i n e)

settled_among : (bs : List Batch) (i : ℕ) (b : Batch) → slice_get bs i ≡ Some b → is_settled b.stage ≡ true → b.bid ≤ greatest (map (λ b. b.bid) (filter (λ b. is_settled b.stage) bs))
settled_among [] i b e t = absurd (cc e)
settled_among (x ∷ bs) zero b e t = let q : x ≡ b = cc e in rw (subst (λ z. is_settled z.stage ≡ true) (sym q) t) (omega (arith, ap (λ z. z.bid) q))
settled_among (x ∷ bs) (suc i) b e t = by (is_settled x.stage) (settled_among bs i b e t)
  where
    by : (v : Bool) → b.bid ≤ greatest (map (λ b. b.bid) (filter (λ b. is_settled b.stage) bs)) → b.bid ≤ greatest (map (λ b. b.bid) (if v then x ∷ filter (λ b. is_settled b.stage) bs else filter (λ b. is_settled b.stage) bs))
    by true l = omega (arith, l)
    by false l = l

pub settled_most : {C : Type 0} (w : Fixed C) (s : Machine C) → BatchesSettleInOrder w s → (k : ℕ) (b : Batch) → batch_of k s.desk.batches ≡ Some b → is_settled b.stage ≡ true → k ≤ s.desk.settled
settled_most w s g k b e t = let i = found_at (λ b. b.bid == k) s.desk.batches b e in omega (arith, g.settled_is, settled_among s.desk.batches i.0 b i.1 t, bid_is s k b e)

pub upto_below : (k : ℕ) (cs : List Cascade) → AllByRecursion (λ c. c.first ≤ k) cs → is_aborted k cs ≡ false → AllByRecursion (λ c. c.upto < k) cs
upto_below k [] h n = tt
upto_below k (c ∷ cs) h n = elim (cases_lt c.upto k) [
  | inl l ↦ (l, upto_below k cs h.1 (rest (covers k c) n))
  | inr l ↦ absurd (true≢false (sym (front (rw (le-leb c.first k h.0, le-leb k c.upto l) refl)) ∙ n))
]
  where
    rest : (b : Bool) → (b || is_aborted k cs) ≡ false → is_aborted k cs ≡ false
    rest true e = absurd (true≢false e)
    rest false e = e

    front : covers k c ≡ true → (covers k c || is_aborted k cs) ≡ true
    front e = rw e refl

pub first_most : (k : ℕ) (bs : List Batch) (i : ℕ) (b : Batch) (cs : List Cascade) → slice_get bs i ≡ Some b → b.bid ≡ k → (b.aborted || is_settled b.stage) ≡ false → AllByRecursion (λ c. AllOverBelow c.first bs) cs → AllByRecursion (λ c. c.first ≤ k) cs
first_most k bs i b [] e q n h = tt
first_most k bs i b (c ∷ cs) e q n h = (
  elim (cases_lt k c.first) [
    | inl l ↦ absurd (true≢false (sym (each_found (λ b. b.bid < c.first → (b.aborted || is_settled b.stage) ≡ true) bs i b e h.0 (omega (arith, q, l))) ∙ n))
    | inr l ↦ l
  ],
  first_most k bs i b cs e q n h.1,
)

pub present_epoch : {C : Type 0} (w : Fixed C) (s : Machine C) → BatchesSettleInOrder w s → EpochsAgree w s → (k a : ℕ) (m : SubBatch) → sub_of k a s.post.subs ≡ Some m → holds (λ b. is_formed b.stage && not b.aborted) (batch_of k s.desk.batches) ≡ true → m.epoch ≡ epoch s.book
present_epoch w s g h k a m e f =
    let b = one_is (λ b. is_formed b.stage && not b.aborted) (batch_of k s.desk.batches) f in
    let p = and_parts (is_formed b.0.stage) (not b.0.aborted) b.2 in
    let i = found_at (λ b. b.bid == k) s.desk.batches b.0 b.1 in
    let n : is_aborted k s.book.cascades ≡ false = sym (mark w s g k b.0 b.1) ∙ not-true b.0.aborted p.1 in
    let first = first_most k s.desk.batches i.0 b.0 s.book.cascades i.1 (bid_is s k b.0 b.1) (open_stage b.0.stage b.0.aborted p.0 (not-true b.0.aborted p.1)) g.below_cascades in
    let j = found_at (λ m. (m.bid == k) && (m.actor == a)) s.post.subs m e in
    let named = each_found (NamesItsPlace s) s.post.subs j.0 m j.1 h.subs in
    named.epoch ∙ (ap (λ z. epoch_of z s.book.cascades) (bid_of s.post.subs e) ∙ epochs.epoch_all k s.book.cascades (upto_below k s.book.cascades first n))
  where
    open_stage : (st : Stage) (v : Bool) → is_formed st ≡ true → v ≡ false → (v || is_settled st) ≡ false
    open_stage st true f n = absurd (true≢false n)
    open_stage Formed false f n = refl
    open_stage Committing false f n = absurd (true≢false (sym f))
    open_stage Settled false f n = absurd (true≢false (sym f))

    bid_of : (ms : List SubBatch) → sub_of k a ms ≡ Some m → m.bid ≡ k
    bid_of [] e = absurd (cc e)
    bid_of (x ∷ ms) e = by ((x.bid == k) && (x.actor == a)) refl e (bid_of ms)
      where
        by : (v : Bool) → ((x.bid == k) && (x.actor == a)) ≡ v → (if v then Some x else sub_of k a ms) ≡ Some m → (sub_of k a ms ≡ Some m → m.bid ≡ k) → m.bid ≡ k
        by true i g r = let z : x ≡ m = cc g in subst (λ v. v.bid ≡ k) z (eqb-true x.bid k (and_parts (x.bid == k) (x.actor == a) i).0)
        by false i g r = r g

-- ---- cells

pub cell_agrees : {C : Type 0} (s : Machine C) (cs : List (Cell C)) (a : ℕ) → AllByRecursion (CellAgrees s) cs → CellAgrees s (slice_index_or cs a no_cell)
cell_agrees s [] a h = record { behind = omega arith; placed = tt; aborted = tt; present = λ e. tt }
cell_agrees s (c ∷ cs) zero h = h.0
cell_agrees s (c ∷ cs) (suc a) h = cell_agrees s cs a h.1

pub cell_behind : {C : Type 0} (w : Fixed C) (s : Machine C) → CellsAgree w s → (a : ℕ) → (cell_at s a).epoch ≤ epoch s.book
cell_behind w s h a = (cell_agrees s s.cells a h).behind

pub cell_present : {C : Type 0} (w : Fixed C) (s : Machine C) → CellsAgree w s → (a k : ℕ) → (cell_at s a).epoch ≡ epoch s.book → is_among k (batches_on (cell_at s a).entries) ≡ true → is_aborted k s.book.cascades ≡ false
cell_present w s h a k e i = among_all (λ k. is_aborted k s.book.cascades ≡ false) k (batches_on (cell_at s a).entries) i ((cell_agrees s s.cells a h).present e)

-- ---- the text and the replies

pub record Counts {C : Type 0} (w : Fixed C) (s : Machine C) : Type 0 where
  pub few : s.ring.next_tx ≤ length w.text.txs
  pub replies : length s.desk.replied ≡ length w.text.txs

counts_kept : {C : Type 0} (w : Fixed C) (e : Event) (s : Machine C) → IsAllowed w e s → Counts w s → Counts w (after w e s)
unfolding conditions after
counts_kept w (Submit n) s ok h = let p = and_parts (n == s.ring.next_tx) (nat_lt n (length w.text.txs)) ok.0 in record { few = omega (arith, eqb-true n s.ring.next_tx p.0, ltb-true n (length w.text.txs) p.1); replies = h.replies }
counts_kept w (Rattle.protocol.specs.Events.Reply n) s ok h = record { few = h.few; replies = Times.length_set s.desk.replied n true ∙ h.replies }
counts_kept {C} w (Rattle.protocol.specs.Events.End t a) s ok h = record { few = h.few; replies = h.replies }
counts_kept w e s ok h = record { few = h.few; replies = h.replies }

pub counts : {C : Type 0} (w : Fixed C) (es : List Event) → IsRun w es → Counts w (reached w es)
counts w es run = along w (Counts w) (counts_kept w) es (opening w) run (record { few = omega arith; replies = length-replicate (length w.text.txs) false })

none_valued : {C : Type 0} (w : Fixed C) → owes.Valued (opening w)
unfolding owes.Valued
none_valued w = λ k b e. absurd (cc e)

valued : {C : Type 0} (w : Fixed C) (es : List Event) → IsRun w es → owes.Valued (reached w es)
valued {C} w es run = along w owes.Valued (owes.valued_kept w) es (opening w) run (none_valued w)

pub settled_results : {C : Type 0} (w : Fixed C) (es : List Event) → IsRun w es → (k : ℕ) (b : Batch) → batch_of k (reached w es).desk.batches ≡ Some b → is_settled b.stage ≡ true → AllByRecursion (λ p. is_some p.result ≡ true) b.pacts
unfolding owes.Valued
settled_results w es run k b e t = each b.pacts (valued w es run k b e (not_formed b.stage t))
  where
    not_formed : (st : Stage) → is_settled st ≡ true → is_formed st ≡ false
    not_formed Formed h = absurd (true≢false (sym h))
    not_formed Committing h = refl
    not_formed Settled h = refl

    each : (ps : List Pact) → owes.has_results ps ≡ true → AllByRecursion (λ p. is_some p.result ≡ true) ps
    each [] h = tt
    each (p ∷ ps) h = let q = and_parts (is_some p.result) (owes.has_results ps) h in (q.0, each ps q.1)

-- each batch is found by its number, at each step
pub found_at_each : {C : Type 0} (w : Fixed C) (s : Machine C) → drawn.Drawn w s → (i : ℕ) (b : Batch) → slice_get s.desk.batches i ≡ Some b → batch_of b.bid s.desk.batches ≡ Some b
unfolding drawn.Drawn
found_at_each w s d = found_once (λ b. b.bid) s.desk.batches (λ n. let m = length (map (λ b. b.bid) s.desk.batches) in omega (arith, ap (times n) d.are, Times.times_from w.text.opening.next_bid m n, once_most w.text.opening.next_bid (w.text.opening.next_bid + m) n))
