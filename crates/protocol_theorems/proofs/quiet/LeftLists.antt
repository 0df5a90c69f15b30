-- Totals over lists, as events change them.
use Rattle.std.specs.Prelude.{◌≡◌, refl, ℕ, zero, suc, ◌+◌, ◌*◌, ◌<◌, ◌≤◌, ◌==◌, not, Bool, true, false, ◌||◌, ◌&&◌, if◌then◌else◌, Some, List, [], ◌∷◌, ◌++◌, length, map, filter, find, slice_index_or, slice_set}
use Rattle.std.specs.List.{AllByRecursion, list_any}
use Rattle.std.proofs.Common.{arith, sym, ap, inl, inr, ◌∙◌}
use Rattle.std.proofs.lemmas.Bool.{or_cases, true≢false}
use Rattle.protocol.specs.Parts.{Entry, BatchEntry, ActEntry, Slot}
use Rattle.protocol.specs.Words.{holds, is_among, is_undone}
use Rattle.protocol.specs.Numbers.{times, one_if}
use Rattle.protocol.specs.OnCell as cell
use Rattle.protocol.specs.Left.{total, unless, visit, slot_left, entry_left}
use Rattle.protocol_laws.proofs.first.Times

-- ---- append, filter, map

pub total_join : {X : Type 0} (f : X → ℕ) (xs ys : List X) → total f (xs ++ ys) ≡ total f xs + total f ys
total_join f [] ys = omega arith
total_join f (x ∷ xs) ys = omega (arith, total_join f xs ys)

pub total_filter : {X : Type 0} (f : X → ℕ) (p : X → Bool) (xs : List X) → total f (filter p xs) ≤ total f xs
total_filter f p [] = omega arith
total_filter f p (x ∷ xs) = by (p x) (total_filter f p xs)
  where
    by : (b : Bool) → total f (filter p xs) ≤ total f xs → total f (if b then x ∷ filter p xs else filter p xs) ≤ f x + total f xs
    by true h = omega (arith, h)
    by false h = omega (arith, h)

-- what is found goes
pub total_out : {X : Type 0} (f : X → ℕ) (p : X → Bool) (y : X) (xs : List X) → find p xs ≡ Some y → total f (filter (λ x. not (p x)) xs) + f y ≤ total f xs
total_out f p y [] e = absurd (cc e)
total_out f p y (x ∷ xs) e = by (p x) e (total_out f p y xs)
  where
    by : (b : Bool) → (if b then Some x else find p xs) ≡ Some y → (find p xs ≡ Some y → total f (filter (λ x. not (p x)) xs) + f y ≤ total f xs) → total f (if not b then x ∷ filter (λ x. not (p x)) xs else filter (λ x. not (p x)) xs) + f y ≤ f x + total f xs
    by true q k = let i : f x ≡ f y = ap f (cc q) in omega (arith, i, total_filter f (λ x. not (p x)) xs)
    by false q k = omega (arith, k q)

pub total_map : {X : Type 0} (f : X → ℕ) (h : X → X) (xs : List X) → ((x : X) → f (h x) ≤ f x) → total f (map h xs) ≤ total f xs
total_map f h [] k = omega arith
total_map f h (x ∷ xs) k = omega (arith, k x, total_map f h xs k)

-- the one that is found falls
pub total_falls : {X : Type 0} (f : X → ℕ) (h : X → X) (p q : X → Bool) (n : ℕ) (xs : List X) → ((x : X) → f (h x) ≤ f x) → ((x : X) → p x ≡ true → q x ≡ true → f (h x) + n ≤ f x) → holds q (find p xs) ≡ true → total f (map h xs) + n ≤ total f xs
total_falls f h p q n [] k j e = absurd (true≢false (sym e))
total_falls f h p q n (x ∷ xs) k j e = by (p x) refl e (total_falls f h p q n xs k j)
  where
    by : (b : Bool) → p x ≡ b → holds q (if b then Some x else find p xs) ≡ true → (holds q (find p xs) ≡ true → total f (map h xs) + n ≤ total f xs) → f (h x) + total f (map h xs) + n ≤ f x + total f xs
    by true i g l = omega (arith, j x i g, total_map f h xs k)
    by false i g l = omega (arith, l g, k x)

-- all with a number rise, so often as it is there
pub total_rises : {X : Type 0} (f : X → ℕ) (h : X → X) (g : X → ℕ) (t n : ℕ) (xs : List X) → ((x : X) → f (h x) ≤ f x + n * one_if (g x == t)) → total f (map h xs) ≤ total f xs + n * times t (map g xs)
total_rises f h g t n [] k = omega arith
total_rises f h g t n (x ∷ xs) k =
    let e : n * times t (g x ∷ map g xs) ≡ n * one_if (g x == t) + n * times t (map g xs) = rw (Times.times_cons t (g x) (map g xs)) (Rattle.std.proofs.Math.Nat.mul-add n (one_if (g x == t)) (times t (map g xs))) in
    omega (arith, k x, total_rises f h g t n xs k, e)

pub total_same : {X : Type 0} (f g : X → ℕ) (xs : List X) → AllByRecursion (λ x. f x ≡ g x) xs → total f xs ≡ total g xs
total_same f g [] h = refl
total_same f g (x ∷ xs) h = omega (arith, h.0, total_same f g xs h.1)

-- ---- one of several

pub total_set : {X : Type 0} (f : X → ℕ) (xs : List X) (i : ℕ) (d y : X) → i < length xs → total f (slice_set xs i y) + f (slice_index_or xs i d) ≡ total f xs + f y
total_set f [] i d y l = absurd (omega (arith, l))
total_set f (x ∷ xs) zero d y l = omega arith
total_set f (x ∷ xs) (suc i) d y l = omega (arith, total_set f xs i d y (omega (arith, l)))

-- whether it is there or not
pub total_set_most : {X : Type 0} (f : X → ℕ) (xs : List X) (i : ℕ) (d y : X) (n : ℕ) → f y ≤ f (slice_index_or xs i d) + n → total f (slice_set xs i y) ≤ total f xs + n
total_set_most f [] i d y n h = omega arith
total_set_most f (x ∷ xs) zero d y n h = omega (arith, h)
total_set_most f (x ∷ xs) (suc i) d y n h = omega (arith, total_set_most f xs i d y n h)

-- each rises by one at most
pub total_each : {X : Type 0} (f g : X → ℕ) (xs : List X) → ((x : X) → f x ≤ g x + 1) → total f xs ≤ total g xs + length xs
total_each f g [] h = omega arith
total_each f g (x ∷ xs) h = omega (arith, h x, total_each f g xs h)

pub total_at : {X : Type 0} (f g : X → ℕ) (d : X) (xs : List X) → ((i : ℕ) → f (slice_index_or xs i d) ≡ g (slice_index_or xs i d)) → total f xs ≡ total g xs
total_at f g d [] h = refl
total_at f g d (x ∷ xs) h = omega (arith, h zero, total_at f g d xs (λ i. h (suc i)))

-- ---- marks

pub unless_most : (b : Bool) (n : ℕ) → unless b n ≤ n
unless_most true n = omega arith
unless_most false n = omega arith

-- ---- entries

slot_done : (t : ℕ) (s : Slot) → slot_left (cell.done_if t s) ≤ slot_left s
slot_done t s = by s.done (s.tid == t)
  where
    by : (b c : Bool) → unless (b || c) 1 ≤ unless b 1
    by true c = omega arith
    by false true = omega arith
    by false false = omega arith

pub entry_done : (t : ℕ) (e : Entry) → entry_left (cell.done_in t e) ≤ entry_left e
entry_done t (BatchEntry b) = omega (arith, total_map slot_left (cell.done_if t) b.slots (slot_done t))
entry_done t (ActEntry x) = omega arith

slots_closed : (t : ℕ) (ss : List Slot) → list_any (λ s. (s.tid == t) && not s.done) ss ≡ true → total slot_left (map (cell.done_if t) ss) + 1 ≤ total slot_left ss
slots_closed t [] h = absurd (true≢false (sym h))
slots_closed t (s ∷ ss) h = by s.done (s.tid == t) h (total_map slot_left (cell.done_if t) ss (slot_done t)) (slots_closed t ss)
  where
    by : (d c : Bool) → ((c && not d) || list_any (λ s. (s.tid == t) && not s.done) ss) ≡ true → total slot_left (map (cell.done_if t) ss) ≤ total slot_left ss → (list_any (λ s. (s.tid == t) && not s.done) ss ≡ true → total slot_left (map (cell.done_if t) ss) + 1 ≤ total slot_left ss) → unless (d || c) 1 + total slot_left (map (cell.done_if t) ss) + 1 ≤ unless d 1 + total slot_left ss
    by true true e l k = omega (arith, k e)
    by true false e l k = omega (arith, k e)
    by false true e l k = omega (arith, l)
    by false false e l k = omega (arith, k e)

entry_closed : (t : ℕ) (e : Entry) → is_undone t e ≡ true → entry_left (cell.done_in t e) + 1 ≤ entry_left e
entry_closed t (BatchEntry b) h = omega (arith, slots_closed t b.slots h)
entry_closed t (ActEntry x) h = absurd (true≢false (sym h))

pub entries_closed : (t : ℕ) (es : List Entry) → list_any (is_undone t) es ≡ true → total entry_left (map (cell.done_in t) es) + 1 ≤ total entry_left es
entries_closed t [] h = absurd (true≢false (sym h))
entries_closed t (e ∷ es) h = elim (or_cases (is_undone t e) (list_any (is_undone t) es) h) [
  | inl q ↦ omega (arith, entry_closed t e q, total_map entry_left (cell.done_in t) es (entry_done t))
  | inr q ↦ omega (arith, entry_done t e, entries_closed t es q)
]

pub new_slots : (ts : List ℕ) → total slot_left (map cell.not_done ts) ≡ length ts
new_slots [] = refl
new_slots (t ∷ ts) = omega (arith, new_slots ts)

-- ---- what a control costs

pub taken_falls : (b : Bool) (r : ℕ) → visit b * r + 2 + 1 ≤ visit b * (r + 1)
taken_falls true r = omega arith
taken_falls false r = omega arith

pub asked_falls : (b : Bool) (r : ℕ) → b ≡ true → visit b * r + 2 + 5 ≤ visit b * (r + 1)
asked_falls true r e = omega arith
asked_falls false r e = absurd (true≢false (sym e))

pub gone_falls : (b : Bool) (r : ℕ) → 3 ≤ visit b * (r + 1)
gone_falls true r = omega arith
gone_falls false r = omega arith

pub run_falls : (b : Bool) (r r' : ℕ) → r' < r → visit b * (r' + 1) + 1 + 1 ≤ visit b * r + 2
run_falls true r r' l = omega (arith, l)
run_falls false r r' l = omega (arith, l)

-- ---- who is among some

pub found_among : {X : Type 0} (g : X → ℕ) (q : X → Bool) (t : ℕ) (xs : List X) → holds q (find (λ x. g x == t) xs) ≡ true → is_among t (map g xs) ≡ true
found_among g q t [] h = absurd (true≢false (sym h))
found_among g q t (x ∷ xs) h = by (g x == t) h (found_among g q t xs)
  where
    by : (b : Bool) → holds q (if b then Some x else find (λ x. g x == t) xs) ≡ true → (holds q (find (λ x. g x == t) xs) ≡ true → is_among t (map g xs) ≡ true) → (b || is_among t (map g xs)) ≡ true
    by true e k = refl
    by false e k = k e

pub never_among : (t : ℕ) (xs : List ℕ) → times t xs ≡ 0 → is_among t xs ≡ false
never_among t [] h = refl
never_among t (x ∷ xs) h = by (x == t) (h' h) (never_among t xs)
  where
    h' : times t (x ∷ xs) ≡ 0 → one_if (x == t) + times t xs ≡ 0
    h' e = sym (Times.times_cons t x xs) ∙ e

    by : (b : Bool) → one_if b + times t xs ≡ 0 → (times t xs ≡ 0 → is_among t xs ≡ false) → (b || is_among t xs) ≡ false
    by true e k = absurd (omega (arith, e))
    by false e k = k (omega (arith, e))
