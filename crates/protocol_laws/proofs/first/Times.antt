-- How often a number is in a list, and lists of consecutive numbers.
use Rattle.std.specs.Prelude.{◌≡◌, refl, ℕ, zero, suc, ◌+◌, ◌<◌, ◌≤◌, ◌==◌, nat_le, Bool, true, false, ◌&&◌, if◌then◌else◌, List, [], ◌∷◌, ◌++◌, length, map, filter, ◌⊎◌, take, drop, slice_index_or, slice_set}
use Rattle.std.proofs.Common.{arith, sym, ap, inl, inr}
use Rattle.std.proofs.lemmas.Bool.{lt-ltb, le-ltb, le-leb, lt-leb, eq-eqb, ne_eqb, cases_lt}
use Rattle.protocol.specs.Numbers.{from, flat, times, one_if, once_in}

pub times_cons : (n x : ℕ) (xs : List ℕ) → times n (x ∷ xs) ≡ one_if (x == n) + times n xs
times_cons n x xs = by (x == n)
  where
    by : (b : Bool) → length (if b then x ∷ filter (λ y. y == n) xs else filter (λ y. y == n) xs) ≡ one_if b + length (filter (λ y. y == n) xs)
    by true = omega arith
    by false = omega arith

pub times_append : (n : ℕ) (xs ys : List ℕ) → times n (xs ++ ys) ≡ times n xs + times n ys
times_append n [] ys = omega arith
times_append n (x ∷ xs) ys = omega (arith, times_cons n x xs, times_cons n x (xs ++ ys), times_append n xs ys)

pub times_flat_append : (n : ℕ) (xss yss : List (List ℕ)) → times n (flat (xss ++ yss)) ≡ times n (flat xss) + times n (flat yss)
times_flat_append n [] yss = omega arith
times_flat_append n (xs ∷ xss) yss = omega (arith, times_append n xs (flat (xss ++ yss)), times_append n xs (flat xss), times_flat_append n xss yss)

pub times_one : (n : ℕ) (xs : List ℕ) → times n (flat (xs ∷ [])) ≡ times n xs
times_one n xs = omega (arith, times_append n xs [])

-- ---- consecutive numbers

pub once_below : (low high n : ℕ) → n < low → once_in low high n ≡ 0
once_below low high n h = rw (lt-leb low n h) refl

pub once_from : (low high n : ℕ) → high ≤ n → once_in low high n ≡ 0
once_from low high n h = rw (le-ltb n high h) (by (nat_le low n))
  where
    by : (b : Bool) → one_if (b && false) ≡ 0
    by true = refl
    by false = refl

pub once_inside : (low high n : ℕ) → low ≤ n → n < high → once_in low high n ≡ 1
once_inside low high n h k = rw (le-leb low n h, lt-ltb n high k) refl

pub length_from : (n k : ℕ) → length (from n k) ≡ k
length_from n zero = refl
length_from n (suc k) = rw (length_from (n + 1) k) refl

pub from_append : (n j k : ℕ) → from n j ++ from (n + j) k ≡ from n (j + k)
from_append n zero k = let e : n + 0 ≡ n = omega arith in let f : 0 + k ≡ k = omega arith in rw (e, f) refl
from_append n (suc j) k =
    let e : n + suc j ≡ (n + 1) + j = omega arith in
    let f : suc j + k ≡ suc (j + k) = omega arith in
    rw (e, f, from_append (n + 1) j k) refl

pub times_from : (low k n : ℕ) → times n (from low k) ≡ once_in low (low + k) n
times_from low zero n = cases (cases_lt n low)
  where
    cases : (n < low) ⊎ (low ≤ n) → 0 ≡ once_in low (low + 0) n
    cases (inl h) = sym (once_below low (low + 0) n h)
    cases (inr h) = sym (once_from low (low + 0) n (omega (arith, h)))
times_from low (suc k) n = cases (times_from (low + 1) k n) (cases_lt n low) (cases_lt low n) (cases_lt n (low + suc k))
  where
    cases : times n (from (low + 1) k) ≡ once_in (low + 1) (low + 1 + k) n → (n < low) ⊎ (low ≤ n) → (low < n) ⊎ (n ≤ low) → (n < low + suc k) ⊎ (low + suc k ≤ n) → times n (low ∷ from (low + 1) k) ≡ once_in low (low + suc k) n
    cases e (inl h) _ _ = omega (arith, times_cons n low (from (low + 1) k), e, once_below low (low + suc k) n h, once_below (low + 1) (low + 1 + k) n (omega (arith, h)), ap one_if (ne_eqb low n (λ q. omega (arith, q, h))))
    cases e (inr h) (inr g) _ = omega (arith, times_cons n low (from (low + 1) k), e, once_inside low (low + suc k) n h (omega (arith, h, g)), once_below (low + 1) (low + 1 + k) n (omega (arith, g)), ap one_if (eq-eqb low n (omega (arith, g, h))))
    cases e (inr h) (inl g) (inl f) = omega (arith, times_cons n low (from (low + 1) k), e, once_inside low (low + suc k) n h f, once_inside (low + 1) (low + 1 + k) n (omega (arith, g)) (omega (arith, f)), ap one_if (ne_eqb low n (λ q. omega (arith, q, g))))
    cases e (inr h) (inl g) (inr f) = omega (arith, times_cons n low (from (low + 1) k), e, once_from low (low + suc k) n f, once_from (low + 1) (low + 1 + k) n (omega (arith, f)), ap one_if (ne_eqb low n (λ q. omega (arith, q, g))))

-- two stretches side by side
pub once_joined : (low mid high n : ℕ) → low ≤ mid → mid ≤ high → once_in low mid n + once_in mid high n ≡ once_in low high n
once_joined low mid high n p q = cases (cases_lt n low) (cases_lt n mid) (cases_lt n high)
  where
    cases : (n < low) ⊎ (low ≤ n) → (n < mid) ⊎ (mid ≤ n) → (n < high) ⊎ (high ≤ n) → once_in low mid n + once_in mid high n ≡ once_in low high n
    cases (inl a) _ _ = omega (arith, once_below low mid n a, once_below mid high n (omega (arith, a, p)), once_below low high n a)
    cases (inr a) (inl b) _ = omega (arith, once_inside low mid n a b, once_below mid high n b, once_inside low high n a (omega (arith, b, q)))
    cases (inr a) (inr b) (inl c) = omega (arith, once_from low mid n b, once_inside mid high n b c, once_inside low high n a c)
    cases (inr a) (inr b) (inr c) = omega (arith, once_from low mid n b, once_from mid high n c, once_from low high n c)

-- ---- one list of several becomes another one

pub times_set : (n : ℕ) (xss : List (List ℕ)) (i : ℕ) (ys : List ℕ) → i < length xss → times n (flat (slice_set xss i ys)) + times n (slice_index_or xss i []) ≡ times n (flat xss) + times n ys
times_set n [] i ys h = absurd (omega (arith, h))
times_set n (xs ∷ xss) zero ys h = omega (arith, times_append n xs (flat xss), times_append n ys (flat xss))
times_set n (xs ∷ xss) (suc i) ys h = omega (arith, times_append n xs (flat xss), times_append n xs (flat (slice_set xss i ys)), times_set n xss i ys (omega (arith, h)))

pub times_split : (n k : ℕ) (xs : List ℕ) → times n (take k xs) + times n (drop k xs) ≡ times n xs
times_split n zero xs = omega arith
times_split n (suc k) [] = refl
times_split n (suc k) (x ∷ xs) = omega (arith, times_cons n x xs, times_cons n x (take k xs), times_split n k xs)

-- the element of one list is the front of another one's rest
pub map_set : {X Y : Type 0} (f : X → Y) (xs : List X) (i : ℕ) (y : X) → map f (slice_set xs i y) ≡ slice_set (map f xs) i (f y)
map_set f [] i y = refl
map_set f (x ∷ xs) zero y = refl
map_set f (x ∷ xs) (suc i) y = rw (map_set f xs i y) refl

pub map_at : {X Y : Type 0} (f : X → Y) (xs : List X) (i : ℕ) (d : X) → slice_index_or (map f xs) i (f d) ≡ f (slice_index_or xs i d)
map_at f [] i d = refl
map_at f (x ∷ xs) zero d = refl
map_at f (x ∷ xs) (suc i) d = map_at f xs i d

pub map_join : {X Y : Type 0} (f : X → Y) (xs ys : List X) → map f (xs ++ ys) ≡ map f xs ++ map f ys
map_join f [] ys = refl
map_join f (x ∷ xs) ys = rw (map_join f xs ys) refl

pub length_set : {X : Type 0} (xs : List X) (i : ℕ) (y : X) → length (slice_set xs i y) ≡ length xs
length_set [] i y = refl
length_set (x ∷ xs) zero y = refl
length_set (x ∷ xs) (suc i) y = rw (length_set xs i y) refl

pub length_map : {X Y : Type 0} (f : X → Y) (xs : List X) → length (map f xs) ≡ length xs
length_map f [] = refl
length_map f (x ∷ xs) = rw (length_map f xs) refl

pub length_join : {X : Type 0} (xs ys : List X) → length (xs ++ ys) ≡ length xs + length ys
length_join [] ys = omega arith
length_join (x ∷ xs) ys = omega (arith, length_join xs ys)
