-- How much is live, and how much lies on an actor.
use Rattle.std.specs.Prelude.{◌≡◌, refl, ℕ, suc, ◌+◌, ◌≤◌, ◌==◌, Bool, true, false, not, ◌&&◌, if◌then◌else◌, Some, List, [], ◌∷◌, length, map, filter, find}
use Rattle.std.specs.List.{AllByRecursion, list_all}
use Rattle.std.proofs.Common.{arith, sym, ap, subst, ◌∙◌}
use Rattle.std.proofs.lemmas.Bool.{true≢false, or_parts, eqb-true, eqb-false, eq-eqb, ne_eqb, not-true}
use Rattle.protocol.specs.Parts.{Joined, Act, Declared, Batch, Entry, BatchEntry, ActEntry, OfBatch, OfAct}
use Rattle.protocol.specs.Words.{holds, count, is_empty, joined_of, declared_of, is_doomed, is_live_act, is_live_batch, batches_on, acts_on}
use Rattle.protocol.specs.Numbers.{times, one_if}
use Rattle.protocol_laws.specs.Tracks.{key_of, is_key_among, Differ}
use Rattle.protocol_laws.proofs.first.Times

-- ---- different keys of elements that pass are no more than those elements

pub count_cons : {X : Type 0} (p : X → Bool) (x : X) (xs : List X) → count p (x ∷ xs) ≡ one_if (p x) + count p xs
count_cons p x xs = by (p x)
  where
    by : (b : Bool) → length (if b then x ∷ filter p xs else filter p xs) ≡ one_if b + length (filter p xs)
    by true = omega arith
    by false = omega arith

without : ℕ → List ℕ → List ℕ
without n ts = filter (λ t. not (t == n)) ts

length_without : (n : ℕ) (ts : List ℕ) → length ts ≡ times n ts + length (without n ts)
unfolding without
length_without n [] = refl
length_without n (t ∷ ts) = by (t == n) (length_without n ts) (Times.times_cons n t ts)
  where
    by : (b : Bool) → length ts ≡ times n ts + length (filter (λ t. not (t == n)) ts) → times n (t ∷ ts) ≡ one_if b + times n ts → suc (length ts) ≡ times n (t ∷ ts) + length (if not b then t ∷ filter (λ t. not (t == n)) ts else filter (λ t. not (t == n)) ts)
    by true k e = omega (arith, k, e)
    by false k e = omega (arith, k, e)

times_without : (m n : ℕ) (ts : List ℕ) → times m (without n ts) ≤ times m ts
unfolding without
times_without m n [] = omega arith
times_without m n (t ∷ ts) = by (t == n) (times_without m n ts) (Times.times_cons m t ts)
  where
    by : (b : Bool) → times m (filter (λ t. not (t == n)) ts) ≤ times m ts → times m (t ∷ ts) ≡ one_if (t == m) + times m ts → times m (if not b then t ∷ filter (λ t. not (t == n)) ts else filter (λ t. not (t == n)) ts) ≤ times m (t ∷ ts)
    by true k e = omega (arith, k, e)
    by false k e = omega (arith, k, e, Times.times_cons m t (filter (λ t. not (t == n)) ts))

all_without : (P : ℕ → Type 0) (Q : ℕ → Type 0) (n : ℕ) (ts : List ℕ) → ((t : ℕ) → (t == n) ≡ false → P t → Q t) → AllByRecursion P ts → AllByRecursion Q (without n ts)
unfolding without
all_without P Q n [] k h = tt
all_without P Q n (t ∷ ts) k h = by (t == n) refl (all_without P Q n ts k h.1)
  where
    by : (b : Bool) → (t == n) ≡ b → AllByRecursion Q (filter (λ t. not (t == n)) ts) → AllByRecursion Q (if not b then t ∷ filter (λ t. not (t == n)) ts else filter (λ t. not (t == n)) ts)
    by true e g = g
    by false e g = (k t e h.0, g)

-- one that is in the list passes, where it is the first of the elements
none_times : (n : ℕ) (P : ℕ → Type 0) (ts : List ℕ) → AllByRecursion P ts → (P n → ⊥) → times n ts ≡ 0
none_times n P [] h k = refl
none_times n P (t ∷ ts) h k = by (t == n) refl (Times.times_cons n t ts) (none_times n P ts h.1 k)
  where
    by : (b : Bool) → (t == n) ≡ b → times n (t ∷ ts) ≡ one_if b + times n ts → times n ts ≡ 0 → times n (t ∷ ts) ≡ 0
    by true e f r = absurd (k (subst P (eqb-true t n e) h.0))
    by false e f r = omega (arith, f, r)

pub most : {X : Type 0} (key : X → ℕ) (p : X → Bool) (xs : List X) (ts : List ℕ) → ((n : ℕ) → times n ts ≤ 1) → AllByRecursion (λ t. holds p (find (λ x. key x == t) xs) ≡ true) ts → length ts ≤ count p xs
most key p [] [] d h = omega arith
most key p [] (t ∷ ts) d h = absurd (true≢false (sym h.0))
most {X} key p (x ∷ xs) ts d h =
    let rest = most key p xs (without (key x) ts) (λ n. omega (arith, times_without n (key x) ts, d n)) (all_without (λ t. holds p (find (λ x. key x == t) (x ∷ xs)) ≡ true) (λ t. holds p (find (λ x. key x == t) xs) ≡ true) (key x) ts other h) in
    by (p x) refl rest
  where
    other : (t : ℕ) → (t == key x) ≡ false → holds p (find (λ x. key x == t) (x ∷ xs)) ≡ true → holds p (find (λ x. key x == t) xs) ≡ true
    other t e k = subst (λ b. holds p (if b then Some x else find (λ x. key x == t) xs) ≡ true) (ne_eqb (key x) t (λ q. eqb-false t (key x) e (sym q))) k

    by : (b : Bool) → p x ≡ b → length (without (key x) ts) ≤ count p xs → length ts ≤ count p (x ∷ xs)
    by true e r = omega (arith, r, length_without (key x) ts, d (key x), count_cons p x xs, ap one_if e)
    by false e r = omega (arith, r, length_without (key x) ts, count_cons p x xs, none_times (key x) (λ t. holds p (find (λ x. key x == t) (x ∷ xs)) ≡ true) ts h (λ k. true≢false (sym (subst (λ b. holds p (if b then Some x else find (λ y. key y == key x) xs) ≡ true) (eq-eqb (key x) (key x) refl) k) ∙ e)))

-- ---- a change leaves no more

pub count_map : {X : Type 0} (p : X → Bool) (f : X → X) (xs : List X) → AllByRecursion (λ x. p (f x) ≡ true → p x ≡ true) xs → count p (map f xs) ≤ count p xs
count_map p f [] h = omega arith
count_map p f (x ∷ xs) h = by (p (f x)) (p x) refl refl h.0 (count_cons p (f x) (map f xs)) (count_cons p x xs) (count_map p f xs h.1)
  where
    by : (b c : Bool) → p (f x) ≡ b → p x ≡ c → (p (f x) ≡ true → p x ≡ true) → count p (f x ∷ map f xs) ≡ one_if (p (f x)) + count p (map f xs) → count p (x ∷ xs) ≡ one_if (p x) + count p xs → count p (map f xs) ≤ count p xs → count p (f x ∷ map f xs) ≤ count p (x ∷ xs)
    by false c e f k i j r = omega (arith, i, j, r, ap one_if e)
    by true c e f k i j r = omega (arith, i, j, r, ap one_if e, ap one_if (k e))

-- ---- entries that differ

on_none : (t : ℕ) (es : List Entry) → is_key_among (OfAct t) (map key_of es) ≡ false → times t (map (λ x. x.tid) (acts_on es)) ≡ 0
on_none t [] h = refl
on_none t (BatchEntry b ∷ es) h = on_none t es h
on_none t (ActEntry x ∷ es) h = let p = or_parts (x.tid == t) (is_key_among (OfAct t) (map key_of es)) h in omega (arith, Times.times_cons t x.tid (map (λ x. x.tid) (acts_on es)), ap one_if p.0, on_none t es p.1)

pub acts_differ : (n : ℕ) (es : List Entry) → Differ (map key_of es) → times n (map (λ x. x.tid) (acts_on es)) ≤ 1
acts_differ n [] d = omega arith
acts_differ n (BatchEntry b ∷ es) d = acts_differ n es d.1
acts_differ n (ActEntry x ∷ es) d = by (x.tid == n) refl (Times.times_cons n x.tid (map (λ x. x.tid) (acts_on es))) (acts_differ n es d.1)
  where
    by : (b : Bool) → (x.tid == n) ≡ b → times n (x.tid ∷ map (λ x. x.tid) (acts_on es)) ≡ one_if b + times n (map (λ x. x.tid) (acts_on es)) → times n (map (λ x. x.tid) (acts_on es)) ≤ 1 → times n (x.tid ∷ map (λ x. x.tid) (acts_on es)) ≤ 1
    by true e f r = omega (arith, f, subst (λ t. times t (map (λ x. x.tid) (acts_on es)) ≡ 0) (eqb-true x.tid n e) (on_none x.tid es d.0))
    by false e f r = omega (arith, f, r)

batch_none : (k : ℕ) (es : List Entry) → is_key_among (OfBatch k) (map key_of es) ≡ false → times k (batches_on es) ≡ 0
batch_none k [] h = refl
batch_none k (ActEntry x ∷ es) h = batch_none k es h
batch_none k (BatchEntry b ∷ es) h = let p = or_parts (b.bid == k) (is_key_among (OfBatch k) (map key_of es)) h in omega (arith, Times.times_cons k b.bid (batches_on es), ap one_if p.0, batch_none k es p.1)

pub batches_differ : (n : ℕ) (es : List Entry) → Differ (map key_of es) → times n (batches_on es) ≤ 1
batches_differ n [] d = omega arith
batches_differ n (ActEntry x ∷ es) d = batches_differ n es d.1
batches_differ n (BatchEntry b ∷ es) d = by (b.bid == n) refl (Times.times_cons n b.bid (batches_on es)) (batches_differ n es d.1)
  where
    by : (v : Bool) → (b.bid == n) ≡ v → times n (b.bid ∷ batches_on es) ≡ one_if v + times n (batches_on es) → times n (batches_on es) ≤ 1 → times n (b.bid ∷ batches_on es) ≤ 1
    by true e f r = omega (arith, f, subst (λ t. times t (batches_on es) ≡ 0) (eqb-true b.bid n e) (batch_none b.bid es d.0))
    by false e f r = omega (arith, f, r)

pub two_kinds : (es : List Entry) → length es ≡ length (batches_on es) + length (acts_on es)
two_kinds [] = refl
two_kinds (BatchEntry b ∷ es) = omega (arith, two_kinds es)
two_kinds (ActEntry x ∷ es) = omega (arith, two_kinds es)

-- ---- who is live

found_in : (a : ℕ) (ps : List Joined) → holds (λ p. not p.finished) (find (λ p. p.actor == a) ps) ≡ true → (is_empty ps ≡ false) × (list_all (λ p. p.finished) ps ≡ false)
found_in a [] h = absurd (true≢false (sym h))
found_in a (p ∷ ps) h = (refl, by (p.actor == a) h (λ g. (found_in a ps g).1))
  where
    by : (b : Bool) → holds (λ p. not p.finished) (if b then Some p else find (λ p. p.actor == a) ps) ≡ true → (holds (λ p. not p.finished) (find (λ p. p.actor == a) ps) ≡ true → list_all (λ p. p.finished) ps ≡ false) → (p.finished && list_all (λ p. p.finished) ps) ≡ false
    by true g k = ap (λ b. b && list_all (λ p. p.finished) ps) (not-true p.finished g)
    by false g k = ap (λ b. p.finished && b) (k g) ∙ Rattle.std.proofs.lemmas.Bool.and_right p.finished false refl

-- it has not left this actor
pub stands_live : (a : ℕ) (x : Act) → holds (λ p. not p.finished) (joined_of a x) ≡ true → is_live_act x ≡ true
stands_live a x h = let f = found_in a x.places h in ap (λ b. not (if b then is_doomed x.status else list_all (λ p. p.finished) x.places)) f.0 ∙ ap not f.1

untrimmed : (a : ℕ) (ps : List Declared) → holds (λ p. not p.trimmed) (find (λ p. p.actor == a) ps) ≡ true → list_all (λ p. p.trimmed) ps ≡ false
untrimmed a [] h = absurd (true≢false (sym h))
untrimmed a (p ∷ ps) h = by (p.actor == a) h (untrimmed a ps)
  where
    by : (b : Bool) → holds (λ p. not p.trimmed) (if b then Some p else find (λ p. p.actor == a) ps) ≡ true → (holds (λ p. not p.trimmed) (find (λ p. p.actor == a) ps) ≡ true → list_all (λ p. p.trimmed) ps ≡ false) → (p.trimmed && list_all (λ p. p.trimmed) ps) ≡ false
    by true g k = ap (λ b. b && list_all (λ p. p.trimmed) ps) (not-true p.trimmed g)
    by false g k = ap (λ b. p.trimmed && b) (k g) ∙ Rattle.std.proofs.lemmas.Bool.and_right p.trimmed false refl

-- a batch that is not aborted, and not trimmed on this actor
pub waits_live : (a : ℕ) (b : Batch) → b.aborted ≡ false → holds (λ p. not p.trimmed) (declared_of a b) ≡ true → is_live_batch b ≡ true
waits_live a b n h = ap (λ z. not z && not (list_all (λ p. p.trimmed) b.places)) n ∙ ap not (untrimmed a b.places h)
