-- Batches settle in the order of their numbers, after every run.
use Rattle.std.specs.Prelude.{◌≡◌, refl, ℕ, ◌+◌, ◌-◌, ◌<◌, ◌≤◌, ◌==◌, nat_le, max, not, Bool, true, false, ◌&&◌, ◌||◌, if◌then◌else◌, Option, Some, None, List, [], ◌∷◌, ◌++◌, map, filter, find}
use Rattle.std.specs.List.{AllByRecursion, list_all}
use Rattle.std.proofs.Common.{arith, sym, ap, subst, inl, inr, ◌∙◌}
use Rattle.std.proofs.lemmas.Bool.{eqb-true, eq-eqb, ne_eqb, leb-true, and_parts, or_cases, not-true, true≢false, cases_lt}
use Rattle.protocol.specs.Fixed.{Fixed, IsText}
use Rattle.protocol.specs.Parts.{Stage, Committing, Settled, Cascade, Batch, Machine}
use Rattle.protocol.specs.Events.{Event, Form, Commit, Settle, Abort, Trim}
use Rattle.protocol.specs.Words.{holds, greatest, is_aborted, declared_of, is_formed, is_committing, is_settled, is_open, is_next_to_commit, batch_of}
use Rattle.protocol.specs.Conditions.{IsAllowed, conditions}
use Rattle.protocol.specs.Effects.{after}
use Rattle.protocol.specs.Runs.{opening, IsRun, reached}
use Rattle.protocol.specs.Contents.{NextBid, Cascades, Bids, Stages, AbortedMarks, SettledBatch}
use Rattle.protocol.specs.OnDesk.{change_if, changed_batch, with_stage, taken}
use Rattle.protocol.specs.Settling.{AllOverBelow, CascadesAscend, BatchesSettleInOrder}
use Rattle.protocol_laws.proofs.first.Along.{along}
use Rattle.protocol_laws.proofs.first.Frames.{frame}
use Rattle.protocol_laws.proofs.first.Times
use Rattle.protocol_laws.proofs.first.SettlingKeys as keys
use Rattle.protocol_laws.proofs.first.SettlingKeys.{Key, IsIn, is_over, OverBelow}
use Rattle.protocol_laws.proofs.first.SettlingEvents as events
use Rattle.protocol_laws.proofs.first.Statuses.{committing_not_settled}

-- ---- the keys of a desk

abbrev pub key_of : Batch → Key
key_of b = record { bid = b.bid; stage = b.stage; aborted = b.aborted }

zipped : List ℕ → List Stage → List Bool → List Key
zipped [] ss marks = []
zipped (k ∷ ks) [] marks = []
zipped (k ∷ ks) (st ∷ ss) [] = []
zipped (k ∷ ks) (st ∷ ss) (a ∷ marks) = record { bid = k; stage = st; aborted = a } ∷ zipped ks ss marks

by_parts : (bs : List Batch) → zipped (map (λ b. b.bid) bs) (map (λ b. b.stage) bs) (map (λ b. b.aborted) bs) ≡ map key_of bs
unfolding zipped
by_parts [] = refl
by_parts (b ∷ bs) = rw (by_parts bs) refl

pub same_keys : (bs cs : List Batch) → map (λ b. b.bid) cs ≡ map (λ b. b.bid) bs → map (λ b. b.stage) cs ≡ map (λ b. b.stage) bs → map (λ b. b.aborted) cs ≡ map (λ b. b.aborted) bs → map key_of cs ≡ map key_of bs
same_keys bs cs e f g = sym (by_parts cs) ∙ (rw (e, f, g) refl ∙ by_parts bs)

restaged : (k : ℕ) (st : Stage) (bs : List Batch) → map key_of (changed_batch k (with_stage st) bs) ≡ map (events.restaged k st) (map key_of bs)
restaged k st [] = refl
restaged k st (b ∷ bs) = rw (restaged k st bs, one (b.bid == k) b) (events.restaged_cons k st (key_of b) (map key_of bs))
  where
    one : (q : Bool) (b : Batch) → key_of (change_if q (with_stage st) b) ≡ events.stage_if q st (key_of b)
    one true b = events.staged st (key_of b)
    one false b = events.unstaged st (key_of b)

taken_keys : (k : ℕ) (bs : List Batch) → map key_of (map (taken k) bs) ≡ map (events.taken_key k) (map key_of bs)
taken_keys k [] = refl
taken_keys k (b ∷ bs) = rw (taken_keys k bs) (events.taken_cons k (key_of b) (map key_of bs))

-- ---- what the conditions find

batch_is : (x y : Batch) → Some x ≡ Some y → x ≡ y
batch_is x y e = cc e

pub in_keys : (y : Batch) (p : Batch → Bool) (bs : List Batch) → find p bs ≡ Some y → IsIn (key_of y) (map key_of bs) × (p y ≡ true)
in_keys y p [] e = absurd (cc e)
in_keys y p (b ∷ bs) e = by (p b) refl e (in_keys y p bs)
  where
    by : (q : Bool) → p b ≡ q → (if q then Some b else find p bs) ≡ Some y → (find p bs ≡ Some y → IsIn (key_of y) (map key_of bs) × (p y ≡ true)) → IsIn (key_of y) (map key_of (b ∷ bs)) × (p y ≡ true)
    by true f e k = let g : b ≡ y = batch_is b y e in (keys.here (key_of b) (key_of y) (map key_of bs) (ap key_of g), subst (λ z. p z ≡ true) g f)
    by false f e k = let g = k e in (keys.there (key_of b) (key_of y) (map key_of bs) g.0, g.1)

-- a batch with a number, for which a test holds
pub record Found (k : ℕ) (test : Batch → Bool) (bs : List Batch) : Type 0 where
  pub batch : Batch
  pub is_in : IsIn (key_of batch) (map key_of bs)
  pub bid : batch.bid ≡ k
  pub holds : test batch ≡ true

pub found : (k : ℕ) (test : Batch → Bool) (bs : List Batch) → holds test (batch_of k bs) ≡ true → Found k test bs
found k test bs h = by (batch_of k bs) refl h
  where
    by : (o : Option Batch) → batch_of k bs ≡ o → holds test o ≡ true → Found k test bs
    by None e h = absurd (true≢false (sym h))
    by (Some b) e h = let g = in_keys b (λ x. x.bid == k) bs e in record { batch = b; is_in = g.0; bid = eqb-true b.bid k g.1; holds = h }

pub next_over : (k : ℕ) (bs : List Batch) → is_next_to_commit k bs ≡ true → (y : Key) → IsIn y (map key_of bs) → y.bid < k → is_over y ≡ true
next_over k [] h y i l = keys.nowhere y i
next_over k (b ∷ bs) h y i l =
    let p = and_parts (nat_le k b.bid || (b.aborted || is_settled b.stage)) (list_all (λ b. nat_le k b.bid || (b.aborted || is_settled b.stage)) bs) h in
    elim (keys.where_in y (key_of b) (map key_of bs) i) [
      | inl e ↦ elim (or_cases (nat_le k b.bid) (b.aborted || is_settled b.stage) p.0) [ inl a ↦ absurd (omega (arith, leb-true k b.bid a, l, ap (λ z. z.bid) e)) | inr o ↦ subst (λ z. is_over z ≡ true) e o ]
      | inr j ↦ next_over k bs p.1 y j l
    ]

-- ---- over states

unfoldable pub Settling : {C : Type 0} → Fixed C → Machine C → Type 0
Settling w s = keys.Settle w.text.opening.next_bid s.ring.next_bid s.desk.settled s.book.cascades (map key_of s.desk.batches)

same : {low n n' k k' : ℕ} {cs cs' : List Cascade} {xs xs' : List Key} → n' ≡ n → k' ≡ k → cs' ≡ cs → xs' ≡ xs → keys.Settle low n k cs xs → keys.Settle low n' k' cs' xs'
same a b c d h = rw (a, b, c, d) h

pub kept : {C : Type 0} (w : Fixed C) (e : Event) (s : Machine C) → IsAllowed w e s → Settling w s → Settling w (after w e s)
unfolding Settling conditions after
kept w (Form k) s ok h =
    rw (Times.map_join key_of s.desk.batches _, eqb-true k s.ring.next_bid ok.0)
    (subst (λ x. keys.Settle w.text.opening.next_bid (s.ring.next_bid + 1) s.desk.settled s.book.cascades (map key_of s.desk.batches ++ x ∷ [])) (events.new_is s.ring.next_bid)
    (events.form _ s.ring.next_bid _ _ _ h))
kept w (Commit k) s ok h =
    let f = found k (λ b. is_open b && is_next_to_commit k s.desk.batches) s.desk.batches ok.0 in
    let p = and_parts (is_open f.batch) (is_next_to_commit k s.desk.batches) f.holds in
    let q = and_parts (is_formed f.batch.stage) (not f.batch.aborted) p.0 in
    rw (restaged k Committing s.desk.batches)
    (events.commit _ _ _ k _ _ (key_of f.batch) f.is_in f.bid q.0 (not-true f.batch.aborted q.1) (keys.over_from k _ (next_over k s.desk.batches p.1)) h)
kept w (Settle k) s ok h =
    let f = found k (λ b. is_committing b.stage && not b.aborted) s.desk.batches ok.0 in
    let q = and_parts (is_committing f.batch.stage) (not f.batch.aborted) f.holds in
    rw (restaged k Settled s.desk.batches)
    (events.settle _ _ _ k _ _ (key_of f.batch) f.is_in f.bid q.0 (not-true f.batch.aborted q.1) h)
kept w (Abort k) s ok h =
    let f = found k (λ b. is_open b && is_next_to_commit k s.desk.batches) s.desk.batches ok.0 in
    let p = and_parts (is_open f.batch) (is_next_to_commit k s.desk.batches) f.holds in
    let q = and_parts (is_formed f.batch.stage) (not f.batch.aborted) p.0 in
    rw (taken_keys k s.desk.batches)
    (events.abort _ s.ring.next_bid _ k _ _ (key_of f.batch) _ refl refl f.is_in f.bid q.0 (not-true f.batch.aborted q.1) (keys.over_from k _ (next_over k s.desk.batches p.1)) h)
kept w e s ok h = same (frame w e s NextBid refl) (frame w e s SettledBatch refl) (frame w e s Cascades refl)
    (same_keys s.desk.batches (after w e s).desk.batches (frame w e s Bids refl) (frame w e s Stages refl) (frame w e s AbortedMarks refl)) h

pub opened : {C : Type 0} (w : Fixed C) → IsText w.text → Settling w (opening w)
unfolding Settling
opened w text = keys.nothing_yet w.text.opening.next_bid text.bids

-- ---- the law

pub all_batches : (P : Batch → Type 0) (bs : List Batch) → ((b : Batch) → IsIn (key_of b) (map key_of bs) → P b) → AllByRecursion P bs
all_batches P [] h = tt
all_batches P (b ∷ bs) h = (h b (keys.here (key_of b) (key_of b) (map key_of bs) refl), all_batches P bs (λ x i. h x (keys.there (key_of b) (key_of x) (map key_of bs) i)))

all_over : (k : ℕ) (bs : List Batch) → OverBelow k (map key_of bs) → AllOverBelow k bs
all_over k bs h = all_batches _ bs (λ b i l. keys.over_at k (map key_of bs) (key_of b) h i l)

all_cascades : (P Q : Cascade → Type 0) (cs : List Cascade) → ((c : Cascade) → P c → Q c) → AllByRecursion P cs → AllByRecursion Q cs
all_cascades P Q [] k h = tt
all_cascades P Q (c ∷ cs) k h = (k c h.0, all_cascades P Q cs k h.1)

most_is : (n : ℕ) (bs : List Batch) → ((y : Key) → IsIn y (map key_of bs) → is_settled y.stage ≡ true → y.bid ≤ n) → greatest (map (λ b. b.bid) (filter (λ b. is_settled b.stage) bs)) ≤ n
most_is n [] h = omega arith
most_is n (b ∷ bs) h = by (is_settled b.stage) refl (most_is n bs (λ y i. h y (keys.there (key_of b) y (map key_of bs) i)))
  where
    by : (q : Bool) → is_settled b.stage ≡ q → greatest (map (λ b. b.bid) (filter (λ b. is_settled b.stage) bs)) ≤ n → greatest (map (λ b. b.bid) (if q then b ∷ filter (λ b. is_settled b.stage) bs else filter (λ b. is_settled b.stage) bs)) ≤ n
    by true e g = omega (arith, g, h (key_of b) (keys.here (key_of b) (key_of b) (map key_of bs) refl) e)
    by false e g = g

reaches : (y : Key) (bs : List Batch) → IsIn y (map key_of bs) → is_settled y.stage ≡ true → y.bid ≤ greatest (map (λ b. b.bid) (filter (λ b. is_settled b.stage) bs))
reaches y [] i e = keys.nowhere y i
reaches y (b ∷ bs) i e = elim (keys.where_in y (key_of b) (map key_of bs) i) [
  | inl q ↦ own (is_settled b.stage) (ap (λ z. is_settled z.stage) q ∙ e) (ap (λ z. z.bid) q)
  | inr j ↦ more (is_settled b.stage) (reaches y bs j e)
]
  where
    own : (t : Bool) → t ≡ true → b.bid ≡ y.bid → y.bid ≤ greatest (map (λ b. b.bid) (if t then b ∷ filter (λ b. is_settled b.stage) bs else filter (λ b. is_settled b.stage) bs))
    own true f g = omega (arith, g)
    own false f g = absurd (true≢false (sym f))

    more : (t : Bool) → y.bid ≤ greatest (map (λ b. b.bid) (filter (λ b. is_settled b.stage) bs)) → y.bid ≤ greatest (map (λ b. b.bid) (if t then b ∷ filter (λ b. is_settled b.stage) bs else filter (λ b. is_settled b.stage) bs))
    more true g = omega (arith, g)
    more false g = g

pub batches_settle_in_order : {C : Type 0} (w : Fixed C) (es : List Event) → IsText w.text → IsRun w es → BatchesSettleInOrder w (reached w es)
unfolding Settling
batches_settle_in_order {C} w es text run =
    let s = reached w es in
    let h : Settling w s = along w (Settling w) (kept w) es (opening w) run (opened w text) in
    record {
      marked = all_batches _ s.desk.batches (λ b i. h.marked (key_of b) i);
      aborted_is_formed = all_batches _ s.desk.batches (λ b i. h.formed (key_of b) i);
      settled_is = settled_number s h;
      below_settled = all_over (s.desk.settled + 1) s.desk.batches h.below_settled;
      below_committing = all_batches _ s.desk.batches (λ b i e. all_over b.bid s.desk.batches (h.below_committing (key_of b) i e));
      below_cascades = all_cascades _ _ s.book.cascades (λ c o. all_over c.first s.desk.batches o) h.below_cascades;
      cascades_ascend = cascades_are w.text.opening.next_bid s.ring.next_bid s.book.cascades h.ascend;
    }
  where
    settled_number : (s : Machine C) → keys.Settle w.text.opening.next_bid s.ring.next_bid s.desk.settled s.book.cascades (map key_of s.desk.batches) → s.desk.settled ≡ max (w.text.opening.next_bid - 1) (greatest (map (λ b. b.bid) (filter (λ b. is_settled b.stage) s.desk.batches)))
    settled_number s h = elim h.reached [
      | inl e ↦ omega (arith, e, most_is s.desk.settled s.desk.batches h.most)
      | inr r ↦ omega (arith, h.based, r.3, reaches r.0 s.desk.batches r.1 r.2, most_is s.desk.settled s.desk.batches h.most)
    ]

    cascades_are : (low high : ℕ) (cs : List Cascade) → keys.Ascend low high cs → CascadesAscend low cs
    cascades_are low high [] h = tt
    cascades_are low high (c ∷ cs) h = let g = keys.ascend_step low high c cs h in (g.0, g.1, cascades_are (c.upto + 1) high cs g.2)

-- ---- for other files

-- where a batch may be aborted, no cascade begins above it
pub firsts_at_most : {C : Type 0} (w : Fixed C) (s : Machine C) (k : ℕ) → IsAllowed w (Abort k) s → Settling w s → AllByRecursion (λ d. d.first ≤ k) s.book.cascades
unfolding Settling conditions
firsts_at_most w s k ok h =
    let f = found k (λ b. is_open b && is_next_to_commit k s.desk.batches) s.desk.batches ok.0 in
    let p = and_parts (is_open f.batch) (is_next_to_commit k s.desk.batches) f.holds in
    let q = and_parts (is_formed f.batch.stage) (not f.batch.aborted) p.0 in
    let not_over : is_over (key_of f.batch) ≡ false = rw (not-true f.batch.aborted q.1, events.not_settled (key_of f.batch) q.0) refl in
    all_cascades _ _ s.book.cascades (λ d o. at_most f.batch f.bid f.is_in not_over d o) h.below_cascades
  where
    at_most : (b : Batch) → b.bid ≡ k → IsIn (key_of b) (map key_of s.desk.batches) → is_over (key_of b) ≡ false → (d : Cascade) → OverBelow d.first (map key_of s.desk.batches) → d.first ≤ k
    at_most b e i n d o = elim (cases_lt k d.first) [ inl l ↦ absurd (true≢false (sym (keys.over_at d.first (map key_of s.desk.batches) (key_of b) o i (omega (arith, l, e))) ∙ n)) | inr g ↦ g ]

-- what is neither settled nor aborted is above the last settled one
above : (n k : ℕ) (b : Batch) (bs : List Batch) → b.bid ≡ k → IsIn (key_of b) (map key_of bs) → is_over (key_of b) ≡ false → OverBelow (n + 1) (map key_of bs) → n < k
above n k b bs e i over h = elim (cases_lt n k) [ inl l ↦ l | inr g ↦ absurd (true≢false (sym (keys.over_at (n + 1) (map key_of bs) (key_of b) h i (omega (arith, g, e))) ∙ over)) ]

pub aborts_above : {C : Type 0} (w : Fixed C) (s : Machine C) (k : ℕ) → IsAllowed w (Abort k) s → Settling w s → s.desk.settled < k
unfolding Settling conditions
aborts_above w s k ok h =
    let f = found k (λ b. is_open b && is_next_to_commit k s.desk.batches) s.desk.batches ok.0 in
    let p = and_parts (is_open f.batch) (is_next_to_commit k s.desk.batches) f.holds in
    let q = and_parts (is_formed f.batch.stage) (not f.batch.aborted) p.0 in
    above s.desk.settled k f.batch s.desk.batches f.bid f.is_in (rw (not-true f.batch.aborted q.1, events.not_settled (key_of f.batch) q.0) refl) h.below_settled

pub settles_above : {C : Type 0} (w : Fixed C) (s : Machine C) (k : ℕ) → IsAllowed w (Settle k) s → Settling w s → s.desk.settled < k
unfolding Settling conditions
settles_above w s k ok h =
    let f = found k (λ b. is_committing b.stage && not b.aborted) s.desk.batches ok.0 in
    let q = and_parts (is_committing f.batch.stage) (not f.batch.aborted) f.holds in
    above s.desk.settled k f.batch s.desk.batches f.bid f.is_in (rw (not-true f.batch.aborted q.1, committing_not_settled f.batch.stage q.0) refl) h.below_settled

-- a settled batch is at most the last settled one, and no cascade covers it
pub trims_settled : {C : Type 0} (w : Fixed C) (s : Machine C) (k a : ℕ) → IsAllowed w (Trim k a) s → Settling w s → (k ≤ s.desk.settled) × (is_aborted k s.book.cascades ≡ false)
unfolding Settling conditions
trims_settled w s k a ok h =
    let f = found k (λ b. is_settled b.stage && (not b.aborted && holds (λ p. not p.trimmed) (declared_of a b))) s.desk.batches ok.0 in
    let p = and_parts (is_settled f.batch.stage) (not f.batch.aborted && holds (λ p. not p.trimmed) (declared_of a f.batch)) f.holds in
    let q = and_parts (not f.batch.aborted) (holds (λ p. not p.trimmed) (declared_of a f.batch)) p.1 in
    (omega (arith, f.bid, h.most (key_of f.batch) f.is_in p.0), ap (λ z. is_aborted z s.book.cascades) (sym f.bid) ∙ (sym (h.marked (key_of f.batch) f.is_in) ∙ not-true f.batch.aborted q.0))

-- the mark of a batch that is found by its number
pub mark_is : {C : Type 0} (w : Fixed C) (s : Machine C) (k : ℕ) (b : Batch) → batch_of k s.desk.batches ≡ Some b → Settling w s → b.aborted ≡ is_aborted k s.book.cascades
unfolding Settling
mark_is w s k b e h = let g = in_keys b (λ x. x.bid == k) s.desk.batches e in h.marked (key_of b) g.0 ∙ ap (λ z. is_aborted z s.book.cascades) (eqb-true b.bid k g.1)

pub aborted_formed : {C : Type 0} (w : Fixed C) (s : Machine C) (k : ℕ) (b : Batch) → batch_of k s.desk.batches ≡ Some b → Settling w s → is_aborted k s.book.cascades ≡ true → is_formed b.stage ≡ true
unfolding Settling
aborted_formed w s k b e h q = let g = in_keys b (λ x. x.bid == k) s.desk.batches e in h.formed (key_of b) g.0 (mark_is w s k b e h ∙ q)

-- a batch that is at most the last settled one is settled or aborted
pub over_settled : {C : Type 0} (w : Fixed C) (s : Machine C) (k : ℕ) (b : Batch) → batch_of k s.desk.batches ≡ Some b → Settling w s → k ≤ s.desk.settled → (b.aborted || is_settled b.stage) ≡ true
unfolding Settling
over_settled w s k b e h l = let g = in_keys b (λ x. x.bid == k) s.desk.batches e in keys.over_at (s.desk.settled + 1) (map key_of s.desk.batches) (key_of b) h.below_settled g.0 (omega (arith, l, eqb-true b.bid k g.1))

-- each batch is the one that is found under its number
found_each : (low high : ℕ) (bs : List Batch) → keys.Rises low high (map key_of bs) → AllByRecursion (λ b. (low ≤ b.bid) × (batch_of b.bid bs ≡ Some b)) bs
found_each low high [] h = tt
found_each low high (b ∷ bs) h = let r = keys.rises_rest low high (key_of b) (map key_of bs) h in ((r.0, rw (eq-eqb b.bid b.bid refl) refl), later bs (found_each (b.bid + 1) high bs r.1) r.0)
  where
    later : (cs : List Batch) → AllByRecursion (λ c. (b.bid + 1 ≤ c.bid) × (batch_of c.bid bs ≡ Some c)) cs → low ≤ b.bid → AllByRecursion (λ c. (low ≤ c.bid) × (batch_of c.bid (b ∷ bs) ≡ Some c)) cs
    later [] g l = tt
    later (c ∷ cs) g l = ((omega (arith, g.0.0, l), rw (ne_eqb b.bid c.bid (λ e. omega (arith, e, g.0.0))) g.0.1), later cs g.1 l)

pub each_batch : {C : Type 0} (w : Fixed C) (s : Machine C) (P : ℕ → Batch → Type 0) → Settling w s → ((k : ℕ) (b : Batch) → batch_of k s.desk.batches ≡ Some b → P k b) → AllByRecursion (λ b. P b.bid b) s.desk.batches
unfolding Settling
each_batch w s P h k = go s.desk.batches (found_each w.text.opening.next_bid s.ring.next_bid s.desk.batches h.rises)
  where
    go : (bs : List Batch) → AllByRecursion (λ b. (w.text.opening.next_bid ≤ b.bid) × (batch_of b.bid s.desk.batches ≡ Some b)) bs → AllByRecursion (λ b. P b.bid b) bs
    go [] g = tt
    go (b ∷ bs) g = (k b.bid b g.0.1, go bs g.1)
