-- How many elements of a list pass a test, after a change of one or of all.
use Rattle.std.proofs.Common.{Some, ◌≡◌, ℕ, zero, suc, ◌+◌, ◌<◌, ◌≤◌, ◌==◌, Bool, true, false, not, ◌&&◌, cond, List, [], ◌∷◌, ◌++◌, length, map, take, drop, refl, ap, ◌∙◌, subst, arith}
use Rattle.std.specs.Prelude.{slice_set, slice_index_or, filter, find}
use Rattle.std.specs.List.{list_all}
use Rattle.std.proofs.lemmas.Bool.{cond_both, and_from, and_left, and_right, not-true, not_from_false, false≢true}
use Rattle.std.proofs.lemmas.List.{take-append-drop, get_or_default}
use Rattle.std.proofs.lemmas.List.Edits.{map_over_more}
use Rattle.protocol.specs.Parts.{Declared, Batch}
use Rattle.protocol.specs.Words.{holds, count, is_live_batch, declared_of}
use Rattle.protocol.specs.OnDesk.{mark_if, marked, is_noted}
use Rattle.protocol.specs.Numbers.{one_if}
use Rattle.batch_table.specs.Places.{gone}

count_by_test : {X : Type 0} (c : Bool) (x : X) (ys : List X) → length (cond c (x ∷ ys) ys) ≡ one_if c + length ys
count_by_test true x ys = omega arith
count_by_test false x ys = omega arith

pub count_head : {X : Type 0} (test : X → Bool) (x : X) (xs : List X) → count test (x ∷ xs) ≡ one_if (test x) + count test xs
count_head test x xs = count_by_test (test x) x (filter test xs)

pub count_append : {X : Type 0} (test : X → Bool) (xs ys : List X) → count test (xs ++ ys) ≡ count test xs + count test ys
count_append test [] ys = omega arith
count_append test (x ∷ xs) ys = omega (arith, count_head test x xs, count_head test x (xs ++ ys), count_append test xs ys)

pub count_joined : {X : Type 0} (test : X → Bool) (xs : List X) (y : X) → count test (xs ++ y ∷ []) ≡ count test xs + one_if (test y)
count_joined test xs y = omega (arith, count_append test xs (y ∷ []), count_head test y [])

pub count_set : {X : Type 0} (test : X → Bool) (xs : List X) (i : ℕ) (y d : X) → i < length xs → count test (slice_set xs i y) + one_if (test (slice_index_or xs i d)) ≡ count test xs + one_if (test y)
count_set test [] i y d l = absurd (omega arith)
count_set test (x ∷ xs) zero y d l = omega (arith, count_head test x xs, count_head test y xs)
count_set test (x ∷ xs) (suc i) y d l = omega (arith, count_head test x xs, count_head test x (slice_set xs i y), count_set test xs i y d (omega arith))

pub count_same : {X : Type 0} (test : X → Bool) (f : X → X) → ((x : X) → test (f x) ≡ test x) → (xs : List X) → count test (map f xs) ≡ count test xs
count_same test f same [] = refl
count_same test f same (x ∷ xs) = omega (arith, count_head test x xs, count_head test (f x) (map f xs), ap one_if (same x), count_same test f same xs)

one_at_most : (c : Bool) → one_if c ≤ 1
one_at_most true = omega arith
one_at_most false = omega arith

pub count_within : {X : Type 0} (test : X → Bool) (xs : List X) → count test xs ≤ length xs
count_within test [] = omega arith
count_within test (x ∷ xs) = omega (arith, count_head test x xs, one_at_most (test x), count_within test xs)

-- a loop's step
pub count_more : {X : Type 0} (test : X → Bool) (xs : List X) (i : ℕ) (d : X) → i < length xs → count test (drop i xs) ≡ one_if (test (slice_index_or xs i d)) + count test (drop (i + 1) xs)
count_more test [] i d l = absurd (omega arith)
count_more test (x ∷ xs) zero d l = count_head test x xs
count_more test (x ∷ xs) (suc i) d l =
    let next : suc (i + 1) ≡ suc i + 1 = omega arith in
    subst (λ z. count test (drop i xs) ≡ one_if (test (slice_index_or xs i d)) + count test (drop z (x ∷ xs))) next (count_more test xs i d (omega arith))

rest : {X : Type 0} (f : X → X) (xs : List X) (i : ℕ) (d : X) → i < length xs → slice_index_or (map f (take i xs) ++ drop i xs) i d ≡ slice_index_or xs i d
rest f [] i d l = absurd (omega arith)
rest f (x ∷ xs) zero d l = refl
rest f (x ∷ xs) (suc i) d l = rest f xs i d (omega arith)

-- a loop that changes each element: its step
pub map_step : {X : Type 0} (f : X → X) (xs ys : List X) (i : ℕ) (d y : X) → i < length xs → i < length ys → ys ≡ map f (take i xs) ++ drop i xs → y ≡ f (slice_index_or ys i d) → slice_set ys i y ≡ map f (take (i + 1) xs) ++ drop (i + 1) xs
map_step f xs ys i d y l l' h e = rw e (map_over_more f xs ys i (slice_index_or ys i d) l h (get_or_default ys i d (slice_index_or ys i d) l'))

-- and what it has not come to yet
pub at_rest : {X : Type 0} (f : X → X) (xs ys : List X) (i : ℕ) (d : X) → i < length xs → ys ≡ map f (take i xs) ++ drop i xs → slice_index_or ys i d ≡ slice_index_or xs i d
at_rest f xs ys i d l e = ap (λ z. slice_index_or z i d) e ∙ rest f xs i d l

-- ---- live batches

pub none_live : (bs : List Batch) → count is_live_batch (map gone bs) ≡ 0
none_live [] = refl
none_live (b ∷ bs) = omega (arith, count_head is_live_batch (gone b) (map gone bs), none_live bs)

pub live_split : (n : ℕ) (bs : List Batch) → count is_live_batch (take n bs ++ map gone (drop n bs)) + count is_live_batch (drop n bs) ≡ count is_live_batch bs
live_split n bs =
    omega (arith, count_append is_live_batch (take n bs) (map gone (drop n bs)), none_live (drop n bs), count_append is_live_batch (take n bs) (drop n bs), ap (λ x. count is_live_batch x) (take-append-drop n bs))

-- a note leaves what is trimmed
noted_trimmed : (c : Bool) (p : Declared) → (mark_if c is_noted p).trimmed ≡ p.trimmed
noted_trimmed true p = refl
noted_trimmed false p = refl

trimmed_same : (a : ℕ) (ps : List Declared) → list_all (λ p. p.trimmed) (map (λ p. mark_if (p.actor == a) is_noted p) ps) ≡ list_all (λ p. p.trimmed) ps
trimmed_same a [] = refl
trimmed_same a (p ∷ ps) = ap (λ v. v && list_all (λ p. p.trimmed) (map (λ p. mark_if (p.actor == a) is_noted p) ps)) (noted_trimmed (p.actor == a) p) ∙ ap (λ v. p.trimmed && v) (trimmed_same a ps)

pub noted_live : (a : ℕ) (b : Batch) → is_live_batch (marked a is_noted b) ≡ is_live_batch b
noted_live a b = ap (λ v. not b.aborted && not v) (trimmed_same a b.places)

-- a batch with an actor that is not trimmed is not trimmed everywhere
some_untrimmed : (a : ℕ) (ps : List Declared) → holds (λ p. not p.trimmed) (find (λ p. p.actor == a) ps) ≡ true → list_all (λ p. p.trimmed) ps ≡ false
some_untrimmed a [] h = absurd (false≢true h)
some_untrimmed a (p ∷ ps) h =
    cond_both (p.actor == a) (Some p) (find (λ p. p.actor == a) ps) (λ o. holds (λ p. not p.trimmed) o ≡ true → list_all (λ p. p.trimmed) (p ∷ ps) ≡ false)
    (λ q g. and_left p.trimmed (list_all (λ p. p.trimmed) ps) (not-true p.trimmed g))
    (λ q g. and_right p.trimmed (list_all (λ p. p.trimmed) ps) (some_untrimmed a ps g))
    h

pub untrimmed_live : (a : ℕ) (b : Batch) → b.aborted ≡ false → holds (λ p. not p.trimmed) (declared_of a b) ≡ true → is_live_batch b ≡ true
untrimmed_live a b n h = and_from (not b.aborted) (not (list_all (λ p. p.trimmed) b.places)) (not_from_false b.aborted n) (not_from_false (list_all (λ p. p.trimmed) b.places) (some_untrimmed a b.places h))
