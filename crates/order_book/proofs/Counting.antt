-- How many ACTs are live, when one is changed and when one is added.
use Rattle.std.proofs.Common.{◌≡◌, ℕ, zero, suc, ◌+◌, ◌≤◌, refl, ap, arith, length, map, List, [], ◌∷◌, ◌++◌}
use Rattle.std.specs.Prelude.{Bool, true, false, if◌then◌else◌, slice_get, filter}
use Rattle.protocol.specs.Parts.{Act}
use Rattle.protocol.specs.Words.{count, holds, is_live_act}
use Rattle.order_book.specs.Kept.{forgotten}
use Rattle.order_book.specs.Changes.{changed_at}
use Rattle.protocol.specs.Numbers.{one_if}

length_if : (b : Bool) (x : Act) (xs : List Act) → length (if b then x ∷ xs else xs) ≡ one_if b + length xs
length_if true x xs = omega arith
length_if false x xs = omega arith

count_cons : (test : Act → Bool) (x : Act) (xs : List Act) → count test (x ∷ xs) ≡ one_if (test x) + count test xs
count_cons test x xs = length_if (test x) x (filter test xs)

pub count_changed : (test : Act → Bool) (at : ℕ) (f : Act → Act) (xs : List Act)
    → count test (changed_at at f xs) + one_if (holds test (slice_get xs at)) ≡ count test xs + one_if (holds test (slice_get (changed_at at f xs) at))
count_changed test at f [] = refl
count_changed test zero f (x ∷ xs) = omega (arith, count_cons test x xs, count_cons test (f x) xs)
count_changed test (suc at) f (x ∷ xs) = omega (arith, count_cons test x xs, count_cons test x (changed_at at f xs), count_changed test at f xs)

pub one_of_count : (test : Act → Bool) (at : ℕ) (xs : List Act) → one_if (holds test (slice_get xs at)) ≤ count test xs
one_of_count test at [] = omega arith
one_of_count test zero (x ∷ xs) = omega (arith, count_cons test x xs)
one_of_count test (suc at) (x ∷ xs) = omega (arith, count_cons test x xs, one_of_count test at xs)

pub one_if_small : (b : Bool) → one_if b ≤ 1
one_if_small true = omega arith
one_if_small false = omega arith

pub count_small : (test : Act → Bool) (xs : List Act) → count test xs ≤ length xs
count_small test [] = omega arith
count_small test (x ∷ xs) = omega (arith, count_cons test x xs, one_if_small (test x), count_small test xs)

pub length_changed : (at : ℕ) (f : Act → Act) (xs : List Act) → length (changed_at at f xs) ≡ length xs
length_changed at f [] = refl
length_changed zero f (x ∷ xs) = refl
length_changed (suc at) f (x ∷ xs) = ap (λ (n : ℕ). suc n) (length_changed at f xs)

pub count_push : (test : Act → Bool) (xs : List Act) (x : Act) → test x ≡ true → count test (xs ++ x ∷ []) ≡ count test xs + 1
count_push test [] x e = omega (arith, count_cons test x [], ap one_if e)
count_push test (y ∷ ys) x e = omega (arith, count_cons test y ys, count_cons test y (ys ++ x ∷ []), count_push test ys x e)

pub count_forgotten : (xs : List Act) → count is_live_act (map forgotten xs) ≡ count is_live_act xs
count_forgotten [] = refl
count_forgotten (x ∷ xs) = omega (arith, count_cons is_live_act x xs, count_cons is_live_act (forgotten x) (map forgotten xs), count_forgotten xs)
