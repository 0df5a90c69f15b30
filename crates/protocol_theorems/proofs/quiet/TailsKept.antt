-- The tail of a cell of the present epoch is the last batch of that epoch that has arrived: those not above it have, those
-- above it are on their way. So the first one on its way names the tail. Of states alone.
use Rattle.std.specs.Prelude.{◌≡◌, refl, ℕ, zero, suc, ◌+◌, ◌-◌, ◌<◌, ◌≤◌, ◌==◌, nat_lt, not, Bool, true, false, ◌&&◌, ◌||◌, if◌then◌else◌, ◌⊎◌, Option, Some, None, is_some, List, [], ◌∷◌, ◌++◌, length, map, filter, find, slice_get, slice_index_or, slice_set}
use Rattle.std.specs.List.{AllByRecursion}
use Rattle.std.proofs.Common.{arith, sym, ap, subst, inl, inr, ◌∙◌}
use Rattle.std.proofs.lemmas.List.{get_or-set_same, get_or-set_other}
use Rattle.std.proofs.lemmas.Bool.{eqb-true, eqb-false, eq-eqb, ne_eqb, ltb-true, lt-ltb, and_parts, or_cases, true≢false, cases_Bool, cases_lt}
use Rattle.snap_base.specs.declared.transactions.State.{State}
use Rattle.protocol.specs.Fixed.{Fixed, IsText, Next, Go, Ended, base}
use Rattle.protocol.specs.Parts.{SubBatch, Cascade, Declared, Batch, Committing, Settled, Outcome, Cell, Machine}
use Rattle.protocol.specs.Events.{Event, Form, Arrive, Ask, Take, Run, Send, End, Close, Complete, Note, Commit, Settle, Abort, Rollback, DropSub, Finish, Trim}
use Rattle.protocol.specs.Words.{holds, is_among, greatest, is_aborted, epoch_of, sub_of, without_sub, batch_of, declared_of, has_act, outcome_of, batches_on, act_of}
use Rattle.protocol.specs.Conditions.{IsAllowed, conditions, epoch}
use Rattle.protocol.specs.Effects.{after, cell_at, no_cell}
use Rattle.protocol.specs.Epochs.{is_of}
use Rattle.protocol_laws.specs.FromDesk.{is_declared, MessageOf, FromDesk}
use Rattle.protocol.specs.Numbers.{times, one_if}
use Rattle.protocol.specs.Runs.{opening, new_cell}
use Rattle.protocol.specs.OnRing as ring
use Rattle.protocol.specs.OnDesk as desk
use Rattle.protocol.specs.OnCell as cell
use Rattle.protocol_laws.specs.Places.{FitsCell}
use Rattle.protocol_theorems.specs.Quiet.{IsNextTo}
use Rattle.protocol_laws.proofs.first.EpochsKept as epochs
use Rattle.protocol_laws.proofs.first.SettlingKept as settling
use Rattle.protocol_laws.proofs.machine.TracksKept.{arrives, held}
use Rattle.protocol_theorems.proofs.quiet.RowsKept as rows
use Rattle.protocol_theorems.proofs.quiet.SubPlaces
use Rattle.protocol_theorems.proofs.quiet.SubsArrive as subs
use Rattle.protocol_theorems.proofs.quiet.BatchesKnown as known
use Rattle.protocol_theorems.proofs.quiet.ActsKnown.{one_of}
use Rattle.protocol_laws.proofs.first.Lists.{all_found}
use Rattle.protocol_laws.proofs.first.Statuses.{if_bid}
use Rattle.protocol_laws.proofs.machine.OversKept.{aborted_low}
use Rattle.protocol_theorems.proofs.quiet.SubPlaces.{if_actor}

-- ---- the desk's batches and their actors

looks : (q : Batch → Bool) (k : ℕ) (f : Batch → Batch) (bs : List Batch) → ((b : Batch) → (f b).bid ≡ b.bid) → ((b : Batch) → q (f b) ≡ q b) → holds q (batch_of k (map f bs)) ≡ holds q (batch_of k bs)
looks q k f [] i h = refl
looks q k f (x ∷ bs) i h = subst (λ z. holds q (if z == k then Some (f x) else batch_of k (map f bs)) ≡ holds q (batch_of k (x ∷ bs))) (sym (i x)) (by (x.bid == k) (looks q k f bs i h))
  where
    by : (v : Bool) → holds q (batch_of k (map f bs)) ≡ holds q (batch_of k bs) → holds q (if v then Some (f x) else batch_of k (map f bs)) ≡ holds q (if v then Some x else batch_of k bs)
    by true g = h x
    by false g = g

if_looks : (q : Batch → Bool) (v : Bool) (f : Batch → Batch) (b : Batch) → q (f b) ≡ q b → q (desk.change_if v f b) ≡ q b
if_looks q true f b h = h
if_looks q false f b h = refl

marked_declared : (a c : ℕ) (f : Declared → Declared) (ps : List Declared) → ((p : Declared) → (f p).actor ≡ p.actor) → is_some (find (λ p. p.actor == a) (map (λ p. desk.mark_if (p.actor == c) f p) ps)) ≡ is_some (find (λ p. p.actor == a) ps)
marked_declared a c f [] i = refl
marked_declared a c f (p ∷ ps) i = subst (λ z. is_some (if z == a then Some (desk.mark_if (p.actor == c) f p) else find (λ p. p.actor == a) (map (λ p. desk.mark_if (p.actor == c) f p) ps)) ≡ is_some (find (λ p. p.actor == a) (p ∷ ps))) (sym (if_actor (p.actor == c) f p (i p))) (by (p.actor == a) (marked_declared a c f ps i))
  where
    by : (v : Bool) → is_some (find (λ p. p.actor == a) (map (λ p. desk.mark_if (p.actor == c) f p) ps)) ≡ is_some (find (λ p. p.actor == a) ps) → is_some (if v then Some (desk.mark_if (p.actor == c) f p) else find (λ p. p.actor == a) (map (λ p. desk.mark_if (p.actor == c) f p) ps)) ≡ is_some (if v then Some p else find (λ p. p.actor == a) ps)
    by true g = refl
    by false g = g

noted_declared : {C : Type 0} (k a t : ℕ) (n : Next C) (bs : List Batch) → is_declared k a (desk.noted_for t n bs) ≡ is_declared k a bs
noted_declared k a t (Go b d) bs = refl
noted_declared k a t (Ended r) bs = looks (λ b. is_some (declared_of a b)) k (desk.with_results t r) bs (λ b. refl) (λ b. refl)

ended_declared : {C : Type 0} (k a : ℕ) (v : Bool) (t : ℕ) (o : Option (Outcome C)) (bs : List Batch) → is_declared k a (if v then bs else desk.noted_from t o bs) ≡ is_declared k a bs
ended_declared k a true t o bs = refl
ended_declared k a false t None bs = refl
ended_declared k a false t (Some x) bs = noted_declared k a t x.next bs

-- a batch that was formed keeps its actors
declared_same : {C : Type 0} (w : Fixed C) (e : Event) (s : Machine C) (k a : ℕ) → IsAllowed w e s → k < s.ring.next_bid → is_declared k a (after w e s).desk.batches ≡ is_declared k a s.desk.batches
unfolding conditions after
declared_same w (Form j) s k a ok l = ap (λ z. holds (λ b. is_some (declared_of a b)) z) (SubPlaces.other_batch k (desk.new_batch j (ring.next_actors w.text s.ring) (ring.next_pacts w.text s.ring)) s.desk.batches (ne_eqb j k (λ q. omega (arith, q, l, eqb-true j s.ring.next_bid ok.0))))
declared_same w (End t b) s k a ok l = ended_declared k a (has_act t (cell_at s b).entries) t (outcome_of t (cell_at s b).outbox) s.desk.batches
declared_same w (Note j b) s k a ok l = looks (λ x. is_some (declared_of a x)) k (λ x. desk.change_if (x.bid == j) (desk.marked b desk.is_noted) x) s.desk.batches (λ x. if_bid (x.bid == j) (desk.marked b desk.is_noted) x refl) (λ x. if_looks (λ x. is_some (declared_of a x)) (x.bid == j) (desk.marked b desk.is_noted) x (marked_declared a b desk.is_noted x.places (λ p. refl)))
declared_same w (Trim j b) s k a ok l = looks (λ x. is_some (declared_of a x)) k (λ x. desk.change_if (x.bid == j) (desk.marked b desk.is_trimmed) x) s.desk.batches (λ x. if_bid (x.bid == j) (desk.marked b desk.is_trimmed) x refl) (λ x. if_looks (λ x. is_some (declared_of a x)) (x.bid == j) (desk.marked b desk.is_trimmed) x (marked_declared a b desk.is_trimmed x.places (λ p. refl)))
declared_same w (Commit j) s k a ok l = looks (λ x. is_some (declared_of a x)) k (λ x. desk.change_if (x.bid == j) (desk.with_stage Committing) x) s.desk.batches (λ x. if_bid (x.bid == j) (desk.with_stage Committing) x refl) (λ x. if_looks (λ x. is_some (declared_of a x)) (x.bid == j) (desk.with_stage Committing) x refl)
declared_same w (Settle j) s k a ok l = looks (λ x. is_some (declared_of a x)) k (λ x. desk.change_if (x.bid == j) (desk.with_stage Settled) x) s.desk.batches (λ x. if_bid (x.bid == j) (desk.with_stage Settled) x refl) (λ x. if_looks (λ x. is_some (declared_of a x)) (x.bid == j) (desk.with_stage Settled) x refl)
declared_same w (Abort j) s k a ok l = looks (λ x. is_some (declared_of a x)) k (desk.taken j) s.desk.batches (λ x. refl) (λ x. refl)
declared_same w e s k a ok l = refl

-- who has an actor was formed
bid_below : (next k a : ℕ) (bs : List Batch) → AllByRecursion (λ b. b < next) (map (λ b. b.bid) bs) → is_declared k a bs ≡ true → k < next
bid_below next k a [] h d = absurd (true≢false (sym d))
bid_below next k a (x ∷ bs) h d = by (x.bid == k) refl d (bid_below next k a bs h.1)
  where
    by : (v : Bool) → (x.bid == k) ≡ v → holds (λ b. is_some (declared_of a b)) (if v then Some x else batch_of k bs) ≡ true → (is_declared k a bs ≡ true → k < next) → k < next
    by true e g r = subst (λ z. z < next) (eqb-true x.bid k e) h.0
    by false e g r = r g

-- ---- the tail of one actor

pub record TailAt (cs : List Cascade) (bs : List Batch) (ms : List SubBatch) (next tail a : ℕ) : Type 0 where
  pub own : (tail ≡ 0) ⊎ ((is_declared tail a bs ≡ true) × (epoch_of tail cs ≡ length cs))
  pub formed : tail < next
  pub ahead : (j : ℕ) → is_declared j a bs ≡ true → epoch_of j cs ≡ length cs → is_some (sub_of j a ms) ≡ true → tail < j
  pub placed : (j : ℕ) → is_declared j a bs ≡ true → epoch_of j cs ≡ length cs → is_some (sub_of j a ms) ≡ false → j ≤ tail

-- who is trimmed is not of a later epoch than the cell
pub record TailsAt {C : Type 0} (s : Machine C) (a : ℕ) (ep tail : ℕ) : Type 0 where
  pub early : (j : ℕ) → is_declared j a s.desk.batches ≡ true → SubPlaces.waits_at j a s.desk.batches ≡ false → epoch_of j s.book.cascades ≤ ep
  pub tail_is : ep ≡ length s.book.cascades → TailAt s.book.cascades s.desk.batches s.post.subs s.ring.next_bid tail a

unfoldable pub Tails : {C : Type 0} → Machine C → Type 0
Tails s = (a : ℕ) → TailsAt s a (cell_at s a).epoch (cell_at s a).tail

-- ---- the first on its way

greatest_is : (t : ℕ) (xs : List ℕ) → AllByRecursion (λ x. x ≤ t) xs → (t ≡ 0) ⊎ (is_among t xs ≡ true) → greatest xs ≡ t
greatest_is t xs h (inl e) = omega (arith, e, most xs h)
  where
    most : (ys : List ℕ) → AllByRecursion (λ x. x ≤ t) ys → greatest ys ≤ t
    most [] g = omega arith
    most (y ∷ ys) g = omega (arith, g.0, most ys g.1)
greatest_is t xs h (inr e) = omega (arith, most xs h, least xs e)
  where
    most : (ys : List ℕ) → AllByRecursion (λ x. x ≤ t) ys → greatest ys ≤ t
    most [] g = omega arith
    most (y ∷ ys) g = omega (arith, g.0, most ys g.1)

    least : (ys : List ℕ) → is_among t ys ≡ true → t ≤ greatest ys
    least [] g = absurd (true≢false (sym g))
    least (y ∷ ys) g = elim (or_cases (y == t) (is_among t ys) g) [ inl q ↦ omega (arith, eqb-true y t q) | inr q ↦ omega (arith, least ys q) ]

some_among : (a : ℕ) (ps : List Declared) → is_among a (map (λ p. p.actor) ps) ≡ is_some (find (λ p. p.actor == a) ps)
some_among a [] = refl
some_among a (p ∷ ps) = by (p.actor == a) (some_among a ps)
  where
    by : (v : Bool) → is_among a (map (λ p. p.actor) ps) ≡ is_some (find (λ p. p.actor == a) ps) → (v || is_among a (map (λ p. p.actor) ps)) ≡ is_some (if v then Some p else find (λ p. p.actor == a) ps)
    by true h = refl
    by false h = h

-- each batch of the desk is found by its number
abbrev pub Found : List Batch → Type 0
Found bs = (i : ℕ) (b : Batch) → slice_get bs i ≡ Some b → batch_of b.bid bs ≡ Some b

all_of : (P : ℕ → Type 0) (q : Batch → Bool) (bs : List Batch) → ((i : ℕ) (b : Batch) → slice_get bs i ≡ Some b → q b ≡ true → P b.bid) → AllByRecursion P (map (λ b. b.bid) (filter q bs))
all_of P q [] h = tt
all_of P q (x ∷ bs) h = by (q x) refl (all_of P q bs (λ i. h (suc i)))
  where
    by : (v : Bool) → q x ≡ v → AllByRecursion P (map (λ b. b.bid) (filter q bs)) → AllByRecursion P (map (λ b. b.bid) (if v then x ∷ filter q bs else filter q bs))
    by true e g = (h zero x refl e, g)
    by false e g = g

one_in : (q : Batch → Bool) (bs : List Batch) (i : ℕ) (b : Batch) → slice_get bs i ≡ Some b → q b ≡ true → is_among b.bid (map (λ b. b.bid) (filter q bs)) ≡ true
one_in q [] i b e h = absurd (cc e)
one_in q (x ∷ bs) zero b e h = let z : x ≡ b = cc e in rw (subst (λ v. q v ≡ true) (sym z) h) (rw (eq-eqb x.bid b.bid (ap (λ v. v.bid) z)) refl)
one_in q (x ∷ bs) (suc i) b e h = by (q x) (one_in q bs i b e h)
  where
    by : (v : Bool) → is_among b.bid (map (λ b. b.bid) (filter q bs)) ≡ true → is_among b.bid (map (λ b. b.bid) (if v then x ∷ filter q bs else filter q bs)) ≡ true
    by true g = Rattle.std.proofs.lemmas.Bool.or_right (x.bid == b.bid) (is_among b.bid (map (λ b. b.bid) (filter q bs))) g
    by false g = g

-- where all smaller ones have arrived, the last one below is the tail
pub last_is_tail : (k a tail next : ℕ) (cs : List Cascade) (bs : List Batch) (ms : List SubBatch) → Found bs → TailAt cs bs ms next tail a → tail < k → ((j : ℕ) → j < k → is_declared j a bs ≡ true → epoch_of j cs ≡ length cs → is_some (sub_of j a ms) ≡ false) → greatest (map (λ b. b.bid) (filter (is_of k (length cs) a cs) bs)) ≡ tail
last_is_tail k a tail next cs bs ms f h l none = greatest_is tail _ (all_of (λ x. x ≤ tail) (is_of k (length cs) a cs) bs below) (own h.own)
  where
    below : (i : ℕ) (b : Batch) → slice_get bs i ≡ Some b → is_of k (length cs) a cs b ≡ true → b.bid ≤ tail
    below i b g q =
        let p = and_parts (nat_lt b.bid k) ((epoch_of b.bid cs == length cs) && is_among a (map (λ p. p.actor) b.places)) q in
        let r = and_parts (epoch_of b.bid cs == length cs) (is_among a (map (λ p. p.actor) b.places)) p.1 in
        let e = eqb-true (epoch_of b.bid cs) (length cs) r.0 in
        let d : is_declared b.bid a bs ≡ true = rw (f i b g) (sym (some_among a b.places) ∙ r.1) in
        h.placed b.bid d e (none b.bid (ltb-true b.bid k p.0) d e)

    own : (tail ≡ 0) ⊎ ((is_declared tail a bs ≡ true) × (epoch_of tail cs ≡ length cs)) → (tail ≡ 0) ⊎ (is_among tail (map (λ b. b.bid) (filter (is_of k (length cs) a cs) bs)) ≡ true)
    own (inl e) = inl e
    own (inr e) =
        let b = Rattle.protocol_laws.proofs.machine.TurnsKept.one_is (λ b. is_some (declared_of a b)) (batch_of tail bs) e.0 in
        let i = Rattle.protocol_theorems.proofs.quiet.QuietEasy.found_at (λ b. b.bid == tail) bs b.0 b.1 in
        let q : b.0.bid ≡ tail = eqb-true b.0.bid tail (Rattle.protocol_laws.proofs.machine.MarksKept.found_bid tail b.0 bs b.1) in
        inr (subst (λ z. is_among z (map (λ b. b.bid) (filter (is_of k (length cs) a cs) bs)) ≡ true) q (one_in (is_of k (length cs) a cs) bs i.0 b.0 i.1
        (rw (lt-ltb b.0.bid k (omega (arith, q, l)), eq-eqb (epoch_of b.0.bid cs) (length cs) (ap (λ z. epoch_of z cs) q ∙ e.1), some_among a b.0.places ∙ b.2) refl)))

-- ---- whether a message is there

some_same : (j a : ℕ) (ms ns : List SubBatch) → SubPlaces.on_post j a ns ≡ SubPlaces.on_post j a ms → is_some (sub_of j a ns) ≡ is_some (sub_of j a ms)
some_same j a ms ns e = by (is_some (sub_of j a ns)) refl (is_some (sub_of j a ms)) refl
  where
    by : (x : Bool) → is_some (sub_of j a ns) ≡ x → (y : Bool) → is_some (sub_of j a ms) ≡ y → x ≡ y
    by true p true q = refl
    by false p false q = refl
    by true p false q = absurd (true≢false (sym (SubPlaces.found_count (SubPlaces.is_to j a) ms (omega (arith, e, SubPlaces.count_found (SubPlaces.is_to j a) ns p))) ∙ q))
    by false p true q = absurd (true≢false (sym (SubPlaces.found_count (SubPlaces.is_to j a) ns (omega (arith, e, SubPlaces.count_found (SubPlaces.is_to j a) ms q))) ∙ p))

waits_same : {C : Type 0} (w : Fixed C) (e : Event) (s : Machine C) (k a : ℕ) → IsAllowed w e s → k < s.ring.next_bid → subs.NotTrim k a e → SubPlaces.waits_at k a (after w e s).desk.batches ≡ SubPlaces.waits_at k a s.desk.batches
unfolding conditions after
waits_same w (Form j) s k a ok l m = ap (λ z. holds (λ b. holds (λ p. not p.trimmed) (declared_of a b)) z) (SubPlaces.other_batch k (desk.new_batch j (ring.next_actors w.text s.ring) (ring.next_pacts w.text s.ring)) s.desk.batches (ne_eqb j k (λ q. omega (arith, q, l, eqb-true j s.ring.next_bid ok.0))))
waits_same w (End t b) s k a ok l m = SubPlaces.ended_waits k a (has_act t (cell_at s b).entries) t (outcome_of t (cell_at s b).outbox) s.desk.batches
waits_same w (Note j b) s k a ok l m = SubPlaces.waits_map k a (λ x. desk.change_if (x.bid == j) (desk.marked b desk.is_noted) x) s.desk.batches (λ x. if_bid (x.bid == j) (desk.marked b desk.is_noted) x refl) (λ x e. SubPlaces.if_waits (x.bid == j) a (desk.marked b desk.is_noted) x (SubPlaces.marked_waits a b desk.is_noted x.places (λ p. refl) (λ p q. if_trim (p.actor == b) p)))
  where
    if_trim : (v : Bool) (p : Declared) → (desk.mark_if v desk.is_noted p).trimmed ≡ p.trimmed
    if_trim true p = refl
    if_trim false p = refl
waits_same w (Commit j) s k a ok l m = SubPlaces.waits_map k a (λ x. desk.change_if (x.bid == j) (desk.with_stage Committing) x) s.desk.batches (λ x. if_bid (x.bid == j) (desk.with_stage Committing) x refl) (λ x e. SubPlaces.if_waits (x.bid == j) a (desk.with_stage Committing) x refl)
waits_same w (Settle j) s k a ok l m = SubPlaces.waits_map k a (λ x. desk.change_if (x.bid == j) (desk.with_stage Settled) x) s.desk.batches (λ x. if_bid (x.bid == j) (desk.with_stage Settled) x refl) (λ x e. SubPlaces.if_waits (x.bid == j) a (desk.with_stage Settled) x refl)
waits_same w (Abort j) s k a ok l m = SubPlaces.waits_map k a (desk.taken j) s.desk.batches (λ x. refl) (λ x e. refl)
waits_same w (Trim j b) s k a ok l m = SubPlaces.trim_desk j b a k s.desk.batches m
waits_same w e s k a ok l m = refl

-- ---- one step at one actor

-- what carries over where the tail and the epoch of the cell stay
record Carries {C : Type 0} (s s' : Machine C) (a : ℕ) : Type 0 where
  bids : AllByRecursion (λ b. b < s.ring.next_bid) (map (λ b. b.bid) s'.desk.batches)
  next : s.ring.next_bid ≤ s'.ring.next_bid
  cs : s'.book.cascades ≡ s.book.cascades
  declared : (j : ℕ) → j < s.ring.next_bid → is_declared j a s'.desk.batches ≡ is_declared j a s.desk.batches
  ms : (j : ℕ) → epoch_of j s.book.cascades ≡ length s.book.cascades → is_some (sub_of j a s'.post.subs) ≡ is_some (sub_of j a s.post.subs)

carry : {C : Type 0} (s s' : Machine C) (a ep tail : ℕ) → Carries s s' a → ((j : ℕ) → is_declared j a s.desk.batches ≡ true → SubPlaces.waits_at j a s'.desk.batches ≡ false → epoch_of j s.book.cascades ≤ ep) → TailsAt s a ep tail → TailsAt s' a ep tail
carry s s' a ep tail c early h = record {
  early = λ j d v. subst (λ z. epoch_of j z ≤ ep) (sym c.cs) (early j (back j d) v);
  tail_is = λ e. let t = h.tail_is (subst (λ z. ep ≡ length z) c.cs e) in record {
    own = elim t.own [ inl z ↦ inl z | inr z ↦ inr (c.declared tail t.formed ∙ z.0, subst (λ x. epoch_of tail x ≡ length x) (sym c.cs) z.1) ];
    formed = omega (arith, t.formed, c.next);
    ahead = λ j d g i. let g' = subst (λ x. epoch_of j x ≡ length x) c.cs g in t.ahead j (back j d) g' (sym (c.ms j g') ∙ i);
    placed = λ j d g i. let g' = subst (λ x. epoch_of j x ≡ length x) c.cs g in t.placed j (back j d) g' (sym (c.ms j g') ∙ i);
  };
}
  where
    back : (j : ℕ) → is_declared j a s'.desk.batches ≡ true → is_declared j a s.desk.batches ≡ true
    back j d = sym (c.declared j (bid_below s.ring.next_bid j a s'.desk.batches c.bids d)) ∙ d

-- a batch is formed
form_tail : {C : Type 0} (w : Fixed C) (k : ℕ) (s : Machine C) (a ep tail : ℕ) → k ≡ s.ring.next_bid → epochs.Agreeing s → TailsAt s a ep tail → TailsAt (after w (Form k) s) a ep tail
unfolding epochs.Agreeing after
form_tail {C} w k s a ep tail q g h = record {
  early = λ j d v. elim (cases_Bool (k == j)) [
    | inl e ↦ absurd (new j e d v)
    | inr e ↦ h.early j (old_declared j e d) (sym (ap (λ z. holds (λ b. holds (λ p. not p.trimmed) (declared_of a b)) z) (SubPlaces.other_batch j fresh s.desk.batches e)) ∙ v)
  ];
  tail_is = λ i. let t = h.tail_is i in record {
    own = elim t.own [ inl z ↦ inl z | inr z ↦ inr (ap (λ y. holds (λ b. is_some (declared_of a b)) y) (SubPlaces.other_batch tail fresh s.desk.batches (ne_eqb k tail (λ y. omega (arith, y, q, t.formed)))) ∙ z.0, z.1) ];
    formed = omega (arith, t.formed);
    ahead = λ j d f m. elim (cases_Bool (k == j)) [
      | inl e ↦ omega (arith, eqb-true k j e, q, t.formed)
      | inr e ↦ t.ahead j (old_declared j e d) f (sym (old_subs j e) ∙ m)
    ];
    placed = λ j d f m. elim (cases_Bool (k == j)) [
      | inl e ↦ absurd (true≢false (sym (posted j e d) ∙ m))
      | inr e ↦ t.placed j (old_declared j e d) f (sym (old_subs j e) ∙ m)
    ];
  };
}
  where
    fresh : Batch
    fresh = desk.new_batch k (ring.next_actors w.text s.ring) (ring.next_pacts w.text s.ring)

    old_declared : (j : ℕ) → (k == j) ≡ false → is_declared j a (s.desk.batches ++ fresh ∷ []) ≡ true → is_declared j a s.desk.batches ≡ true
    old_declared j e d = sym (ap (λ z. holds (λ b. is_some (declared_of a b)) z) (SubPlaces.other_batch j fresh s.desk.batches e)) ∙ d

    among : (j : ℕ) → (k == j) ≡ true → is_declared j a (s.desk.batches ++ fresh ∷ []) ≡ true → is_among a (ring.next_actors w.text s.ring) ≡ true
    among j e d =
        let m : k ≡ j = eqb-true k j e in
        let f = SubPlaces.new_batch j fresh s.desk.batches m (subst (λ z. AllByRecursion (λ b. b < z) (map (λ b. b.bid) s.desk.batches)) (sym q ∙ m) g.formed) in
        ap (is_among a) (sym (known.actors_of (ring.next_actors w.text s.ring))) ∙ (some_among a (map desk.new_declared (ring.next_actors w.text s.ring)) ∙ (sym (ap (λ z. holds (λ b. is_some (declared_of a b)) z) f.1) ∙ d))

    new : (j : ℕ) → (k == j) ≡ true → is_declared j a (s.desk.batches ++ fresh ∷ []) ≡ true → SubPlaces.waits_at j a (s.desk.batches ++ fresh ∷ []) ≡ false → ⊥
    new j e d v =
        let m : k ≡ j = eqb-true k j e in
        let f = SubPlaces.new_batch j fresh s.desk.batches m (subst (λ z. AllByRecursion (λ b. b < z) (map (λ b. b.bid) s.desk.batches)) (sym q ∙ m) g.formed) in
        true≢false (sym (among j e d) ∙ (sym (SubPlaces.declared_new a (ring.next_actors w.text s.ring)) ∙ (sym (ap (λ z. holds (λ b. holds (λ p. not p.trimmed) (declared_of a b)) z) f.1) ∙ v)))

    joined : (j : ℕ) → SubPlaces.on_post j a (s.post.subs ++ map (ring.first_sub w.text k s.ring) (ring.next_actors w.text s.ring)) ≡ SubPlaces.on_post j a s.post.subs + (if k == j then times a (ring.next_actors w.text s.ring) else 0)
    joined j = omega (arith, SubPlaces.count_join (SubPlaces.is_to j a) s.post.subs (map (ring.first_sub w.text k s.ring) (ring.next_actors w.text s.ring)), SubPlaces.new_subs w k j a s.ring (ring.next_actors w.text s.ring))

    old_subs : (j : ℕ) → (k == j) ≡ false → is_some (sub_of j a (s.post.subs ++ map (ring.first_sub w.text k s.ring) (ring.next_actors w.text s.ring))) ≡ is_some (sub_of j a s.post.subs)
    old_subs j e = some_same j a s.post.subs (s.post.subs ++ map (ring.first_sub w.text k s.ring) (ring.next_actors w.text s.ring)) (let z = joined j in omega (arith, z, ap (λ v. if v then times a (ring.next_actors w.text s.ring) else 0) e))

    some : (xs : List ℕ) → is_among a xs ≡ true → 1 ≤ times a xs
    some [] z = absurd (true≢false (sym z))
    some (x ∷ xs) z = one (x == a) z (Rattle.protocol_laws.proofs.first.Times.times_cons a x xs) (some xs)
      where
        one : (v : Bool) → (v || is_among a xs) ≡ true → times a (x ∷ xs) ≡ one_if v + times a xs → (is_among a xs ≡ true → 1 ≤ times a xs) → 1 ≤ times a (x ∷ xs)
        one true z t r = omega (arith, t)
        one false z t r = omega (arith, t, r z)

    posted : (j : ℕ) → (k == j) ≡ true → is_declared j a (s.desk.batches ++ fresh ∷ []) ≡ true → is_some (sub_of j a (s.post.subs ++ map (ring.first_sub w.text k s.ring) (ring.next_actors w.text s.ring))) ≡ true
    posted j e d = SubPlaces.found_count (SubPlaces.is_to j a) (s.post.subs ++ map (ring.first_sub w.text k s.ring) (ring.next_actors w.text s.ring)) (let z = joined j in omega (arith, z, ap (λ v. if v then times a (ring.next_actors w.text s.ring) else 0) e, some (ring.next_actors w.text s.ring) (among j e d)))

no_and : (x v : Bool) → x ≡ false → (v && x) ≡ false
no_and x true q = q
no_and x false q = refl

-- a message is taken elsewhere, or of another batch
taken : (k b j a : ℕ) (ms : List SubBatch) → ((k == j) && (b == a)) ≡ false → is_some (sub_of j a (without_sub k b ms)) ≡ is_some (sub_of j a ms)
taken k b j a ms e = some_same j a ms (without_sub k b ms) (SubPlaces.count_other (SubPlaces.is_to j a) (SubPlaces.is_to k b) ms (SubPlaces.not_both k j b a e))

-- a batch arrives
arrive_tail : {C : Type 0} (w : Fixed C) (k a : ℕ) (s : Machine C) → IsAllowed w (Arrive k a) s → epochs.Agreeing s → Found s.desk.batches → FromDesk s → TailsAt s a (cell_at s a).epoch (cell_at s a).tail → TailsAt (after w (Arrive k a) s) a (cell_at s a).epoch k
unfolding epochs.Agreeing conditions after
arrive_tail {C} w k a s ok g f d h = by (sub_of k a s.post.subs) refl ok.0 ok.1.1.0 ok.1.1.1.0
  where
    by : (o : Option SubBatch) → sub_of k a s.post.subs ≡ o → is_some o ≡ true
        → holds (λ m. (m.epoch == epoch s.book) && holds (λ c. c.epoch == epoch s.book) (slice_get s.cells a)) o ≡ true
        → holds (λ m. holds (λ c. m.prev == c.tail) (slice_get s.cells a)) o ≡ true → TailsAt (after w (Arrive k a) s) a (cell_at s a).epoch k
    by None e p q r = absurd (true≢false (sym p))
    by (Some m) e p q r =
        let n = all_found (epochs.Names s.ring.next_bid s.book.cascades (map (λ b. b.bid) s.desk.batches) (map (λ b. map (λ p. p.actor) b.places) s.desk.batches)) (λ x. (x.bid == k) && (x.actor == a)) s.post.subs m g.names e in
        let x = all_found (MessageOf s.desk.batches) (λ x. (x.bid == k) && (x.actor == a)) s.post.subs m d.subs e in
        let ids = and_parts (m.bid == k) (m.actor == a) n.1 in
        let i : m.bid ≡ k = eqb-true m.bid k ids.0 in
        let j : m.actor ≡ a = eqb-true m.actor a ids.1 in
        let v = and_parts (m.epoch == epoch s.book) (holds (λ c. c.epoch == epoch s.book) (slice_get s.cells a)) q in
        let own : epoch_of k s.book.cascades ≡ length s.book.cascades = ap (λ z. epoch_of z s.book.cascades) (sym i) ∙ (sym n.0.epoch ∙ eqb-true m.epoch (epoch s.book) v.0) in
        let prev : (cell_at s a).tail ≡ greatest (map (λ b. b.bid) (filter (is_of k (length s.book.cascades) a s.book.cascades) s.desk.batches)) =
        sym (eqb-true m.prev (cell_at s a).tail (held (λ c. m.prev == c.tail) s.cells a no_cell r)) ∙ (n.0.prev ∙ (ap greatest (sym (epochs.two_lists m.bid m.epoch m.actor s.book.cascades s.desk.batches)) ∙ ((ap (λ z. greatest (map (λ b. b.bid) (filter (is_of z m.epoch m.actor s.book.cascades) s.desk.batches))) i) ∙ ((ap (λ z. greatest (map (λ b. b.bid) (filter (is_of k z m.actor s.book.cascades) s.desk.batches))) (eqb-true m.epoch (epoch s.book) v.0)) ∙ ap (λ z. greatest (map (λ b. b.bid) (filter (is_of k (length s.book.cascades) z s.book.cascades) s.desk.batches))) j)))) in
        record {
          early = h.early;
          tail_is = λ c. let t = h.tail_is c in record {
            own = inr (subst (λ z. is_declared z a s.desk.batches ≡ true) i (subst (λ z. is_declared m.bid z s.desk.batches ≡ true) j x.0.declared), own);
            formed = omega (arith, n.0.formed, i);
            ahead = λ y dy ey my. later t prev y dy ey my;
            placed = λ y dy ey my. earlier t prev y dy ey my;
          };
        }
      where
        below : (cell_at s a).tail ≡ greatest (map (λ b. b.bid) (filter (is_of k (length s.book.cascades) a s.book.cascades) s.desk.batches)) → (y : ℕ) → is_declared y a s.desk.batches ≡ true → epoch_of y s.book.cascades ≡ length s.book.cascades → y < k → y ≤ (cell_at s a).tail
        below prev y dy ey l =
            let b = Rattle.protocol_laws.proofs.machine.TurnsKept.one_is (λ b. is_some (declared_of a b)) (batch_of y s.desk.batches) dy in
            let z = Rattle.protocol_theorems.proofs.quiet.QuietEasy.found_at (λ b. b.bid == y) s.desk.batches b.0 b.1 in
            let u : b.0.bid ≡ y = eqb-true b.0.bid y (Rattle.protocol_laws.proofs.machine.MarksKept.found_bid y b.0 s.desk.batches b.1) in
            let o = one_in (is_of k (length s.book.cascades) a s.book.cascades) s.desk.batches z.0 b.0 z.1 (rw (lt-ltb b.0.bid k (omega (arith, u, l)), eq-eqb (epoch_of b.0.bid s.book.cascades) (length s.book.cascades) (ap (λ z. epoch_of z s.book.cascades) u ∙ ey), some_among a b.0.places ∙ b.2) refl) in
            omega (arith, prev, least (map (λ b. b.bid) (filter (is_of k (length s.book.cascades) a s.book.cascades) s.desk.batches)) b.0.bid o, u)
          where
            least : (ys : List ℕ) (t : ℕ) → is_among t ys ≡ true → t ≤ greatest ys
            least [] t g = absurd (true≢false (sym g))
            least (y ∷ ys) t g = elim (or_cases (y == t) (is_among t ys) g) [ inl q ↦ omega (arith, eqb-true y t q) | inr q ↦ omega (arith, least ys t q) ]

        later : TailAt s.book.cascades s.desk.batches s.post.subs s.ring.next_bid (cell_at s a).tail a → (cell_at s a).tail ≡ greatest (map (λ b. b.bid) (filter (is_of k (length s.book.cascades) a s.book.cascades) s.desk.batches)) → (y : ℕ) → is_declared y a s.desk.batches ≡ true → epoch_of y s.book.cascades ≡ length s.book.cascades → is_some (sub_of y a (without_sub k a s.post.subs)) ≡ true → k < y
        later t prev y dy ey my = elim (cases_Bool (k == y)) [
          | inl e ↦ absurd (omega (arith, SubPlaces.count_found (SubPlaces.is_to y a) (without_sub k a s.post.subs) my, subst (λ z. SubPlaces.on_post z a (without_sub k a s.post.subs) ≡ 0) (eqb-true k y e) (SubPlaces.count_gone (SubPlaces.is_to k a) s.post.subs)))
          | inr e ↦ elim (cases_lt k y) [
            | inl l ↦ l
            | inr l ↦ absurd (omega (arith, below prev y dy ey (lower (eqb-false k y e) l), t.ahead y dy ey (sym (taken k a y a s.post.subs (ap (λ z. z && (a == a)) e)) ∙ my)))
          ]
        ]
          where
            lower : (k ≡ y → ⊥) → y ≤ k → y < k
            lower n l = elim (cases_lt y k) [ inl u ↦ u | inr u ↦ absurd (n (omega (arith, l, u))) ]

        earlier : TailAt s.book.cascades s.desk.batches s.post.subs s.ring.next_bid (cell_at s a).tail a → (cell_at s a).tail ≡ greatest (map (λ b. b.bid) (filter (is_of k (length s.book.cascades) a s.book.cascades) s.desk.batches)) → (y : ℕ) → is_declared y a s.desk.batches ≡ true → epoch_of y s.book.cascades ≡ length s.book.cascades → is_some (sub_of y a (without_sub k a s.post.subs)) ≡ false → y ≤ k
        earlier t prev y dy ey my = elim (cases_Bool (k == y)) [
          | inl e ↦ omega (arith, eqb-true k y e)
          | inr e ↦ elim (cases_lt k y) [
            | inl l ↦ absurd (omega (arith, l, t.placed y dy ey (sym (taken k a y a s.post.subs (ap (λ z. z && (a == a)) e)) ∙ my), tail_less))
            | inr l ↦ l
          ]
        ]
          where
            tail_less : (cell_at s a).tail < k
            tail_less = (Rattle.protocol_laws.proofs.machine.PlacesKept.message w k a s ok g).behind

-- ---- every event

plain : {C : Type 0} (w : Fixed C) (e : Event) (s : Machine C) → IsAllowed w e s → epochs.Agreeing s → (after w e s).ring.next_bid ≡ s.ring.next_bid → (after w e s).book.cascades ≡ s.book.cascades → (after w e s).post.subs ≡ s.post.subs → ((j a : ℕ) → subs.NotTrim j a e)
    → (a ep tail : ℕ) → TailsAt s a ep tail → TailsAt (after w e s) a ep tail
plain w e s ok g n c m t a ep tail h = carry s (after w e s) a ep tail (record {
  bids = bids;
  next = omega (arith, n);
  cs = c;
  declared = λ j l. declared_same w e s j a ok l;
  ms = λ j q. ap (λ z. is_some (sub_of j a z)) m;
}) (λ j d v. h.early j d (sym (waits_same w e s j a ok (bid_below s.ring.next_bid j a s.desk.batches (epochs.bids_below s g) d) (t j a)) ∙ v)) h
  where
    bids : AllByRecursion (λ b. b < s.ring.next_bid) (map (λ b. b.bid) (after w e s).desk.batches)
    bids = subst (λ z. AllByRecursion (λ b. b < z) (map (λ b. b.bid) (after w e s).desk.batches)) n (epochs.bids_below (after w e s) (epochs.kept w e s ok g))

-- who is trimmed was on the schedule
trim_tail : {C : Type 0} (w : Fixed C) (k b : ℕ) (s : Machine C) → IsAllowed w (Trim k b) s → epochs.Agreeing s → settling.Settling w s → rows.Rows s → known.AllFit w s → subs.Placed w s → (a : ℕ) → TailsAt s a (cell_at s a).epoch (cell_at s a).tail → TailsAt (after w (Trim k b) s) a (cell_at s a).epoch (cell_at s a).tail
unfolding rows.Rows SubPlaces.InOnePlace SubPlaces.TrimOwed conditions after
trim_tail w k b s ok g u r f p a h = carry s (after w (Trim k b) s) a (cell_at s a).epoch (cell_at s a).tail (record {
  bids = epochs.bids_below (after w (Trim k b) s) (epochs.kept w (Trim k b) s ok g);
  next = omega arith;
  cs = refl;
  declared = λ j l. declared_same w (Trim k b) s j a ok l;
  ms = λ j q. refl;
}) (λ j d v. by j d v ((k == j) && (b == a)) refl) h
  where
    own : epoch_of k s.book.cascades ≤ (cell_at s b).epoch
    own =
        let z = subs.trims w (Trim k b) s ok u f p.stand p.one in
        let n = (settling.trims_settled w s k b ok u).1 in
        let b' = Rattle.protocol_laws.proofs.machine.TurnsKept.one_is (λ x. Rattle.protocol.specs.Words.is_settled x.stage && (not x.aborted && holds (λ p. not p.trimmed) (declared_of b x))) (batch_of k s.desk.batches) ok.0 in
        let q = and_parts (not b'.0.aborted) (holds (λ p. not p.trimmed) (declared_of b b'.0)) (and_parts (Rattle.protocol.specs.Words.is_settled b'.0.stage) (not b'.0.aborted && holds (λ p. not p.trimmed) (declared_of b b'.0)) b'.2).1 in
        let v : SubPlaces.waits_at k b s.desk.batches ≡ true = rw b'.1 q.1 in
        let o : 1 ≤ times k (batches_on (cell_at s b).entries) = omega (arith, p.one b k n, ap one_if v, none z) in
        (subs.fits_all (FitsCell s.ring.next_bid s.book.cascades (cell_at s b).epoch (cell_at s b).tail) k (batches_on (cell_at s b).entries) o (subst (AllByRecursion (FitsCell s.ring.next_bid s.book.cascades (cell_at s b).epoch (cell_at s b).tail)) (rows.row_batches (cell_at s b).entries) (r b).places.fit)).placed
      where
        none : sub_of k b s.post.subs ≡ None → SubPlaces.on_post k b s.post.subs ≡ 0
        none z = elim (cases_lt 0 (SubPlaces.on_post k b s.post.subs)) [ inl l ↦ absurd (true≢false (sym (SubPlaces.found_count (SubPlaces.is_to k b) s.post.subs (omega (arith, l))) ∙ ap is_some z)) | inr l ↦ omega (arith, l) ]

    by : (j : ℕ) → is_declared j a s.desk.batches ≡ true → SubPlaces.waits_at j a (desk.changed_batch k (desk.marked b desk.is_trimmed) s.desk.batches) ≡ false → (v : Bool) → ((k == j) && (b == a)) ≡ v → epoch_of j s.book.cascades ≤ (cell_at s a).epoch
    by j d v false e = h.early j d (sym (SubPlaces.trim_desk k b a j s.desk.batches e) ∙ v)
    by j d v true e = let q = and_parts (k == j) (b == a) e in subst (λ z. epoch_of z s.book.cascades ≤ (cell_at s a).epoch) (eqb-true k j q.0) (subst (λ z. epoch_of k s.book.cascades ≤ (cell_at s z).epoch) (eqb-true b a q.1) own)

-- a cell that was behind has none of the present epoch: they are all on their way
roll_tail : {C : Type 0} (w : Fixed C) (a : ℕ) (s : Machine C) → (cell_at s a).epoch < length s.book.cascades → epochs.Agreeing s → rows.Rows s → subs.Placed w s → TailsAt s a (cell_at s a).epoch (cell_at s a).tail → TailsAt s a (length s.book.cascades) 0
unfolding rows.Rows SubPlaces.InOnePlace epochs.Agreeing
roll_tail w a s l g r p h = record {
  early = λ j d v. epochs.epoch_most j s.book.cascades;
  tail_is = λ e. record {
    own = inl refl;
    formed = omega (arith, g.some);
    ahead = λ j d f m. some j m;
    placed = λ j d f m. absurd (none j d f m);
  };
}
  where
    some : (j : ℕ) → is_some (sub_of j a s.post.subs) ≡ true → 0 < j
    some j m = by (sub_of j a s.post.subs) refl m
      where
        by : (o : Option SubBatch) → sub_of j a s.post.subs ≡ o → is_some o ≡ true → 0 < j
        by None e q = absurd (true≢false (sym q))
        by (Some m) e q =
            let n = all_found (epochs.Names s.ring.next_bid s.book.cascades (map (λ b. b.bid) s.desk.batches) (map (λ b. map (λ p. p.actor) b.places) s.desk.batches)) (λ x. (x.bid == j) && (x.actor == a)) s.post.subs m g.names e in
            omega (arith, n.0.some, eqb-true m.bid j (and_parts (m.bid == j) (m.actor == a) n.1).0)

    none : (j : ℕ) → is_declared j a s.desk.batches ≡ true → epoch_of j s.book.cascades ≡ length s.book.cascades → is_some (sub_of j a s.post.subs) ≡ false → ⊥
    none j d f m = elim (cases_Bool (SubPlaces.waits_at j a s.desk.batches)) [
      | inr v ↦ omega (arith, h.early j d v, f, l)
      | inl v ↦
          let fresh : is_aborted j s.book.cascades ≡ false = elim (cases_Bool (is_aborted j s.book.cascades)) [ inl y ↦ absurd (omega (arith, aborted_low j s.book.cascades y, f)) | inr y ↦ y ] in
          let o : 1 ≤ times j (batches_on (cell_at s a).entries) = omega (arith, p.one a j fresh, ap one_if v, zero_post) in
          let x = subs.fits_all (FitsCell s.ring.next_bid s.book.cascades (cell_at s a).epoch (cell_at s a).tail) j (batches_on (cell_at s a).entries) o (subst (AllByRecursion (FitsCell s.ring.next_bid s.book.cascades (cell_at s a).epoch (cell_at s a).tail)) (rows.row_batches (cell_at s a).entries) (r a).places.fit) in
          omega (arith, x.placed, f, l)
    ]
      where
        zero_post : SubPlaces.on_post j a s.post.subs ≡ 0
        zero_post = elim (cases_lt 0 (SubPlaces.on_post j a s.post.subs)) [ inl u ↦ absurd (true≢false (sym (SubPlaces.found_count (SubPlaces.is_to j a) s.post.subs (omega (arith, u))) ∙ m)) | inr u ↦ omega (arith, u) ]

pub tails_kept : {C : Type 0} (w : Fixed C) (e : Event) (s : Machine C) → IsAllowed w e s → epochs.Agreeing s → settling.Settling w s → rows.Rows s → known.AllFit w s → subs.Placed w s → Found s.desk.batches → FromDesk s → Tails s → Tails (after w e s)
unfolding Tails rows.Rows conditions after
tails_kept w (Form k) s ok g u r f p n d h = λ a. form_tail w k s a (cell_at s a).epoch (cell_at s a).tail (eqb-true k s.ring.next_bid ok.0) g (h a)
tails_kept {C} w (Arrive k a) s ok g u r f p n d h = λ b. elim (cases_Bool (b == a)) [
  | inl e ↦ let q : b ≡ a = eqb-true b a e in subst (λ z. TailsAt (after w (Arrive k a) s) z (slice_index_or (slice_set s.cells a c) z no_cell).epoch (slice_index_or (slice_set s.cells a c) z no_cell).tail) (sym q)
      (subst (λ y. TailsAt (after w (Arrive k a) s) a y.epoch y.tail) (sym (get_or-set_same s.cells a c no_cell (arrives (epoch s.book) a (λ c. c.epoch == epoch s.book) s.cells (sub_of k a s.post.subs) ok.1.1.0))) (arrive_tail w k a s ok g n d (h a)))
  | inr e ↦ subst (λ y. TailsAt (after w (Arrive k a) s) b y.epoch y.tail) (sym (get_or-set_other s.cells a b c no_cell (eqb-false b a e))) (carry s (after w (Arrive k a) s) b (cell_at s b).epoch (cell_at s b).tail (record {
    bids = epochs.bids_below s g;
    next = omega arith;
    cs = refl;
    declared = λ j l. refl;
    ms = λ j q. taken k a j b s.post.subs (no_and (a == b) (k == j) (ne_eqb a b (λ q. eqb-false b a e (sym q))));
  }) (h b).early (h b))
]
  where
    c : Cell C
    c = cell.batch_placed k (sub_of k a s.post.subs) (cell_at s a)
tails_kept w (DropSub k b) s ok g u r f p n d h = λ a. carry s (after w (DropSub k b) s) a (cell_at s a).epoch (cell_at s a).tail (record {
  bids = epochs.bids_below s g;
  next = omega arith;
  cs = refl;
  declared = λ j l. refl;
  ms = λ j q. taken k b j a s.post.subs (rw (ne_eqb k j (λ i. omega (arith, aborted_low k s.book.cascades ok.1.0, q, ap (λ z. epoch_of z s.book.cascades) i))) refl);
}) (h a).early (h a)
tails_kept w (Abort k) s ok g u r f p n d h = λ a. record {
  early = λ j e v.
      let l = bid_below s.ring.next_bid j a (after w (Abort k) s).desk.batches (epochs.bids_below (after w (Abort k) s) (epochs.kept w (Abort k) s ok g)) e in
      let q = (h a).early j (sym (declared_same w (Abort k) s j a ok l) ∙ e) (sym (waits_same w (Abort k) s j a ok l tt) ∙ v) in
      omega (arith, q, epochs.epoch_more j s.book.cascades (record { first = k; upto = s.ring.next_bid - 1; by = Rattle.protocol.specs.OnBook.failed_tx (Rattle.protocol.specs.OnBook.why k s.desk); at = s.book.next_c; code = Rattle.protocol.specs.OnBook.failed_code (Rattle.protocol.specs.OnBook.why k s.desk) }) (omega (arith, l)));
  tail_is = λ e. absurd (omega (arith, e, (r a).places.behind, Rattle.protocol_laws.proofs.first.Times.length_join s.book.cascades (record { first = k; upto = s.ring.next_bid - 1; by = Rattle.protocol.specs.OnBook.failed_tx (Rattle.protocol.specs.OnBook.why k s.desk); at = s.book.next_c; code = Rattle.protocol.specs.OnBook.failed_code (Rattle.protocol.specs.OnBook.why k s.desk) } ∷ [])));
}
tails_kept w (Rollback b) s ok g u r f p n d h = one_of (λ i c. TailsAt (after w (Rollback b) s) i c.epoch c.tail) no_cell s.cells b (cell.rolled_back s.book.cascades (cell_at s b))
    (λ x. plain w (Rollback b) s ok g refl refl refl (λ j a. tt) b (length s.book.cascades) 0 (roll_tail w b s (ltb-true (cell_at s b).epoch (epoch s.book) (held (λ c. nat_lt c.epoch (epoch s.book)) s.cells b no_cell ok.0)) g r p (h b)))
    (λ i. plain w (Rollback b) s ok g refl refl refl (λ j a. tt) i (cell_at s i).epoch (cell_at s i).tail (h i))
tails_kept w (Trim k b) s ok g u r f p n d h = one_of (λ i c. TailsAt (after w (Trim k b) s) i c.epoch c.tail) no_cell s.cells b (cell.batch_left k (cell_at s b)) (λ x. x) (λ i. trim_tail w k b s ok g u r f p i (h i))
tails_kept w (Ask t b) s ok g u r f p n d h = one_of (λ i c. TailsAt (after w (Ask t b) s) i c.epoch c.tail) no_cell s.cells b _ (λ x. x) (λ i. plain w (Ask t b) s ok g refl refl refl (λ j a. tt) i (cell_at s i).epoch (cell_at s i).tail (h i))
tails_kept w (Take t b) s ok g u r f p n d h = one_of (λ i c. TailsAt (after w (Take t b) s) i c.epoch c.tail) no_cell s.cells b _ (λ x. x) (λ i. plain w (Take t b) s ok g refl refl refl (λ j a. tt) i (cell_at s i).epoch (cell_at s i).tail (h i))
tails_kept w (Run t b) s ok g u r f p n d h = one_of (λ i c. TailsAt (after w (Run t b) s) i c.epoch c.tail) no_cell s.cells b (cell.slice_run w.code t b (cell_at s b)) (λ x. x) (λ i. plain w (Run t b) s ok g refl refl refl (λ j a. tt) i (cell_at s i).epoch (cell_at s i).tail (h i))
tails_kept w (Send t b) s ok g u r f p n d h = one_of (λ i c. TailsAt (after w (Send t b) s) i c.epoch c.tail) no_cell s.cells b _ (λ x. x) (λ i. plain w (Send t b) s ok g refl refl refl (λ j a. tt) i (cell_at s i).epoch (cell_at s i).tail (h i))
tails_kept w (End t b) s ok g u r f p n d h = one_of (λ i c. TailsAt (after w (End t b) s) i c.epoch c.tail) no_cell s.cells b _ (λ x. x) (λ i. plain w (End t b) s ok g refl refl refl (λ j a. tt) i (cell_at s i).epoch (cell_at s i).tail (h i))
tails_kept w (Close t b) s ok g u r f p n d h = one_of (λ i c. TailsAt (after w (Close t b) s) i c.epoch c.tail) no_cell s.cells b _ (λ x. x) (λ i. plain w (Close t b) s ok g refl refl refl (λ j a. tt) i (cell_at s i).epoch (cell_at s i).tail (h i))
tails_kept w (Complete k b) s ok g u r f p n d h = one_of (λ i c. TailsAt (after w (Complete k b) s) i c.epoch c.tail) no_cell s.cells b _ (λ x. x) (λ i. plain w (Complete k b) s ok g refl refl refl (λ j a. tt) i (cell_at s i).epoch (cell_at s i).tail (h i))
tails_kept w (Finish t b) s ok g u r f p n d h = one_of (λ i c. TailsAt (after w (Finish t b) s) i c.epoch c.tail) no_cell s.cells b (cell.act_left t (act_of t s.book.acts) (cell_at s b)) (λ x. x) (λ i. plain w (Finish t b) s ok g refl refl refl (λ j a. tt) i (cell_at s i).epoch (cell_at s i).tail (h i))
tails_kept w e s ok g u r f p n d h = λ i. plain w e s ok g refl refl refl (λ j a. tt) i (cell_at s i).epoch (cell_at s i).tail (h i)

empty_tail : {C : Type 0} (s : Machine C) (a ep tail : ℕ) → s.desk.batches ≡ [] → tail ≡ 0 → 1 ≤ s.ring.next_bid → TailsAt s a ep tail
empty_tail s a ep tail e z l = record {
  early = λ j d v. absurd (none j d);
  tail_is = λ q. record { own = inl z; formed = omega (arith, z, l); ahead = λ j d f m. absurd (none j d); placed = λ j d f m. absurd (none j d) };
}
  where
    none : (j : ℕ) → is_declared j a s.desk.batches ≡ true → ⊥
    none j d = true≢false (sym (subst (λ bs. is_declared j a bs ≡ true) e d))

pub tails_opened : {C : Type 0} (w : Fixed C) → IsText w.text → Tails (opening w)
unfolding Tails
tails_opened {C} w v = λ a. empty_tail (opening w) a (cell_at (opening w) a).epoch (cell_at (opening w) a).tail refl (zero_tail w.text.opening.states a) v.bids
  where
    zero_tail : (ss : List State) (a : ℕ) → (slice_index_or (map (new_cell {C = C} (base w.text)) ss) a no_cell).tail ≡ 0
    zero_tail [] a = refl
    zero_tail (x ∷ xs) zero = refl
    zero_tail (x ∷ xs) (suc a) = zero_tail xs a

-- the first on its way to an actor is the next one there
pub next_there : {C : Type 0} (s : Machine C) → epochs.Agreeing s → Found s.desk.batches → FromDesk s → Tails s → (k a : ℕ) (m : SubBatch) → IsNextTo s k a m → m.prev ≡ (cell_at s a).tail
unfolding epochs.Agreeing Tails
next_there s g f d h k a m c =
    let n = all_found (epochs.Names s.ring.next_bid s.book.cascades (map (λ b. b.bid) s.desk.batches) (map (λ b. map (λ p. p.actor) b.places) s.desk.batches)) (λ x. (x.bid == k) && (x.actor == a)) s.post.subs m g.names c.under_way in
    let x = all_found (MessageOf s.desk.batches) (λ x. (x.bid == k) && (x.actor == a)) s.post.subs m d.subs c.under_way in
    let ids = and_parts (m.bid == k) (m.actor == a) n.1 in
    let i : m.bid ≡ k = eqb-true m.bid k ids.0 in
    let j : m.actor ≡ a = eqb-true m.actor a ids.1 in
    let own : epoch_of k s.book.cascades ≡ length s.book.cascades = ap (λ z. epoch_of z s.book.cascades) (sym i) ∙ (sym n.0.epoch ∙ c.of_epoch) in
    let t = (h a).tail_is c.present in
    let dk : is_declared k a s.desk.batches ≡ true = subst (λ z. is_declared z a s.desk.batches ≡ true) i (subst (λ z. is_declared m.bid z s.desk.batches ≡ true) j x.0.declared) in
    let l = t.ahead k dk own (rw c.under_way refl) in
    n.0.prev ∙ (ap greatest (sym (epochs.two_lists m.bid m.epoch m.actor s.book.cascades s.desk.batches)) ∙ ((ap (λ z. greatest (map (λ b. b.bid) (filter (is_of z m.epoch m.actor s.book.cascades) s.desk.batches))) i) ∙ ((ap (λ z. greatest (map (λ b. b.bid) (filter (is_of k z m.actor s.book.cascades) s.desk.batches))) c.of_epoch) ∙ (ap (λ z. greatest (map (λ b. b.bid) (filter (is_of k (length s.book.cascades) z s.book.cascades) s.desk.batches))) j ∙ last_is_tail k a (cell_at s a).tail s.ring.next_bid s.book.cascades s.desk.batches s.post.subs f t l none))))
  where
    none : (y : ℕ) → y < k → is_declared y a s.desk.batches ≡ true → epoch_of y s.book.cascades ≡ length s.book.cascades → is_some (sub_of y a s.post.subs) ≡ false
    none y l dy ey = elim (cases_Bool (is_some (sub_of y a s.post.subs))) [ inl p ↦ absurd (omega (arith, aborted_low y s.book.cascades (c.first y l p), ey)) | inr p ↦ p ]
