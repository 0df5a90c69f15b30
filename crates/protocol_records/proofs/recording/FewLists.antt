-- Where no key stands twice, there are no more elements than keys.
use Rattle.std.specs.Prelude.{◌≡◌, refl, ℕ, ◌+◌, ◌≤◌, ◌==◌, Bool, true, false, ◌||◌, if◌then◌else◌, List, [], ◌∷◌, length, filter}
use Rattle.std.specs.List.{AllByRecursion, list_any}
use Rattle.std.proofs.Common.{arith, sym, subst, inl, inr, ◌∙◌}
use Rattle.std.proofs.lemmas.Bool.{true≢false, cases_Bool, eqb-true, eq-eqb, false_from_ne_true}
use Rattle.protocol.specs.Words.{count, is_among}
use Rattle.protocol.specs.Numbers.{times}
use Rattle.protocol.specs.Left.{total}

pub count_more : {X : Type 0} (p : X → Bool) (x : X) (xs : List X) → p x ≡ true → count p (x ∷ xs) ≡ 1 + count p xs
count_more p x xs e = by (p x) e
  where
    by : (b : Bool) → b ≡ true → length (if b then x ∷ filter p xs else filter p xs) ≡ 1 + length (filter p xs)
    by true f = omega arith
    by false f = absurd (true≢false (sym f))

count_most : {X : Type 0} (p : X → Bool) (x : X) (xs : List X) → count p xs ≤ count p (x ∷ xs)
count_most p x xs = by (p x)
  where
    by : (b : Bool) → length (filter p xs) ≤ length (if b then x ∷ filter p xs else filter p xs)
    by true = omega arith
    by false = omega arith

total_none : {X Y : Type 0} (has : Y → X → Bool) (keys : List Y) → total (λ k. count (has k) []) keys ≡ 0
total_none has [] = refl
total_none has (k ∷ ks) = omega (arith, total_none has ks)

all_more : {X Y : Type 0} (has : Y → X → Bool) (x : X) (xs : List X) (keys : List Y) → total (λ k. count (has k) xs) keys ≤ total (λ k. count (has k) (x ∷ xs)) keys
all_more has x xs [] = omega arith
all_more has x xs (k ∷ ks) = omega (arith, count_most (has k) x xs, all_more has x xs ks)

one_more : {X Y : Type 0} (has : Y → X → Bool) (x : X) (xs : List X) (keys : List Y) → list_any (λ k. has k x) keys ≡ true → 1 + total (λ k. count (has k) xs) keys ≤ total (λ k. count (has k) (x ∷ xs)) keys
one_more has x xs [] e = absurd (true≢false (sym e))
one_more has x xs (k ∷ ks) e = by (has k x) refl e (one_more has x xs ks)
  where
    by : (b : Bool) → has k x ≡ b → (b || list_any (λ k. has k x) ks) ≡ true → (list_any (λ k. has k x) ks ≡ true → 1 + total (λ k. count (has k) xs) ks ≤ total (λ k. count (has k) (x ∷ xs)) ks) → 1 + total (λ k. count (has k) xs) (k ∷ ks) ≤ total (λ k. count (has k) (x ∷ xs)) (k ∷ ks)
    by true f g r = omega (arith, count_more (has k) x xs f, all_more has x xs ks)
    by false f g r = omega (arith, count_most (has k) x xs, r g)

at_least : {X Y : Type 0} (has : Y → X → Bool) (keys : List Y) (xs : List X) → AllByRecursion (λ x. list_any (λ k. has k x) keys ≡ true) xs → length xs ≤ total (λ k. count (has k) xs) keys
at_least has keys [] h = omega arith
at_least has keys (x ∷ xs) h = omega (arith, one_more has x xs keys h.0, at_least has keys xs h.1)

at_most : {X Y : Type 0} (has : Y → X → Bool) (xs : List X) (keys : List Y) → ((k : Y) → count (has k) xs ≤ 1) → total (λ k. count (has k) xs) keys ≤ length keys
at_most has xs [] h = omega arith
at_most has xs (k ∷ ks) h = omega (arith, h k, at_most has xs ks h)

pub no_more_than_keys : {X Y : Type 0} (has : Y → X → Bool) (xs : List X) (keys : List Y) → ((k : Y) → count (has k) xs ≤ 1) → AllByRecursion (λ x. list_any (λ k. has k x) keys ≡ true) xs → length xs ≤ length keys
no_more_than_keys has xs keys once h = omega (arith, at_least has keys xs h, at_most has xs keys once)

-- ---- numbers

same_test : (m n : ℕ) → (m == n) ≡ (n == m)
same_test m n = elim (cases_Bool (n == m)) [
  | inl e ↦ eq-eqb m n (sym (eqb-true n m e)) ∙ sym e
  | inr e ↦ false_from_ne_true (m == n) (λ q. true≢false (sym (eq-eqb n m (sym (eqb-true m n q))) ∙ e)) ∙ sym e
]

count_same : {X : Type 0} (p q : X → Bool) (xs : List X) → ((x : X) → p x ≡ q x) → count p xs ≡ count q xs
count_same p q [] k = refl
count_same p q (x ∷ xs) k = rw (k x) (by (q x) (count_same p q xs k))
  where
    by : (b : Bool) → length (filter p xs) ≡ length (filter q xs) → length (if b then x ∷ filter p xs else filter p xs) ≡ length (if b then x ∷ filter q xs else filter q xs)
    by true e = omega (arith, e)
    by false e = e

pub no_more_than : (xs ys : List ℕ) → ((n : ℕ) → times n xs ≤ 1) → AllByRecursion (λ n. is_among n ys ≡ true) xs → length xs ≤ length ys
no_more_than xs ys once h = no_more_than_keys (λ k n. k == n) xs ys (λ k. subst (λ z. z ≤ 1) (count_same (λ n. n == k) (λ n. k == n) xs (λ n. same_test n k)) (once k)) h
