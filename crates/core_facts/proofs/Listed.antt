-- Lists: one of them, what holds of each, and numbers that ascend.
use Rattle.std.proofs.Common.{◌≡◌, ℕ, zero, suc, ◌+◌, ◌<◌, ◌≤◌, Bool, true, false, Option, Some, None, List, [], ◌∷◌, ◌++◌, length, map, refl, ap, sym, ◌∙◌, subst, arith}
use Rattle.std.specs.Prelude.{filter, find, slice_get, slice_index_or, if◌then◌else◌}
use Rattle.std.specs.List.{All, AllByRecursion}
use Rattle.std.proofs.lemmas.Bool.{true≢false}
pub use Rattle.snap_base.proofs.Lists.{all_found}
use Rattle.protocol.specs.Words.{below, holds, is_empty}
pub use Rattle.protocol_laws.proofs.machine.TracksKept.{in_range}
use Rattle.txn_records.specs.Records.{Ascend}

-- ---- counts

pub length_mapped : {X Y : Type 0} (f : X → Y) (xs : List X) → length (map f xs) ≡ length xs
length_mapped f [] = refl
length_mapped f (x ∷ xs) = ap suc (length_mapped f xs)

-- ---- what is found

pub found_nowhere : {X : Type 0} (p : X → Bool) (xs ys : List X) → find p xs ≡ None → find p ys ≡ None → find p (xs ++ ys) ≡ None
found_nowhere p [] ys e f = f
found_nowhere p (x ∷ xs) ys e f = by (p x) e (found_nowhere p xs ys)
  where
    by : (b : Bool) → (if b then Some x else find p xs) ≡ None → (find p xs ≡ None → find p ys ≡ None → find p (xs ++ ys) ≡ None) → (if b then Some x else find p (xs ++ ys)) ≡ None
    by true e r = absurd (cc e)
    by false e r = r e f

-- one that passes a test, where something does
pub one_is : {X : Type 0} (p : X → Bool) (o : Option X) → holds p o ≡ true → (x : X) × ((o ≡ Some x) × (p x ≡ true))
one_is p None e = absurd (true≢false (sym e))
one_is p (Some x) e = (x, (refl, e))

pub at_index : {X : Type 0} (p : X → Bool) (xs : List X) (i : ℕ) (d : X) → holds p (slice_get xs i) ≡ true → p (slice_index_or xs i d) ≡ true
at_index p [] i d h = absurd (true≢false (sym h))
at_index p (x ∷ xs) zero d h = h
at_index p (x ∷ xs) (suc i) d h = at_index p xs i d h

-- ---- what holds of each

pub all_at : {X : Type 0} (P : X → Type 0) (xs : List X) (i : ℕ) (d : X) → P d → AllByRecursion P xs → P (slice_index_or xs i d)
all_at P [] i d p h = p
all_at P (x ∷ xs) zero d p h = h.0
all_at P (x ∷ xs) (suc i) d p h = all_at P xs i d p h.1

pub all_middle : {X : Type 0} (P : X → Type 0) (x : X) (front rest : List X) → AllByRecursion P (front ++ x ∷ rest) → AllByRecursion P front × P x
all_middle P x [] rest h = (tt, h.0)
all_middle P x (y ∷ front) rest h = let k = all_middle P x front rest h.1 in ((h.0, k.0), k.1)

pub all_mapped : {X Y : Type 0} (P : Y → Type 0) (f : X → Y) (xs : List X) → ((x : X) → P (f x)) → AllByRecursion P (map f xs)
all_mapped P f [] h = tt
all_mapped P f (x ∷ xs) h = (h x, all_mapped P f xs h)

-- what holds of each element of the images holds of each that they are of, at its place
pub all_indexed : {X Y : Type 0} (P : Y → Type 0) (Q : X → Type 0) (f : X → Y) (xs : List X) → ((x : X) → P (f x) → Q x) → AllByRecursion P (map f xs) → All Q xs
all_indexed P Q f [] k h = λ i d l. absurd (omega (arith, l))
all_indexed {X} P Q f (x ∷ xs) k h = by (all_indexed P Q f xs k h.1)
  where
    by : All Q xs → (i : ℕ) (d : X) → i < length (x ∷ xs) → Q (slice_index_or (x ∷ xs) i d)
    by r zero d l = k x h.0
    by r (suc i) d l = r i d (omega (arith, l))

pub some_there : {X : Type 0} (p : X → Bool) (q : X → Bool) (xs : List X) → holds q (find p xs) ≡ true → 1 ≤ length xs
some_there p q [] h = absurd (true≢false (sym h))
some_there p q (x ∷ xs) h = omega arith

pub filled : {X : Type 0} (xs : List X) → is_empty xs ≡ false → 1 ≤ length xs
filled [] e = absurd (true≢false e)
filled (x ∷ xs) e = omega arith

-- ---- numbers that ascend

passing_join : (p : ℕ → Bool) (xs ys : List ℕ) → filter p (xs ++ ys) ≡ filter p xs ++ filter p ys
passing_join p [] ys = refl
passing_join p (x ∷ xs) ys = by (p x) (passing_join p xs ys)
  where
    by : (b : Bool) → filter p (xs ++ ys) ≡ filter p xs ++ filter p ys → (if b then x ∷ filter p (xs ++ ys) else filter p (xs ++ ys)) ≡ (if b then x ∷ filter p xs else filter p xs) ++ filter p ys
    by true r = ap (λ z. x ∷ z) r
    by false r = r

one_more : (p : ℕ → Bool) (n limit low : ℕ) (xs : List ℕ) → n < limit → low ≤ n → Ascend low n xs → Ascend low limit (xs ++ filter p (n ∷ []))
one_more p n limit low [] m l h = by (p n)
  where
    by : (b : Bool) → Ascend low limit (if b then n ∷ [] else [])
    by true = (l, m, tt)
    by false = tt
one_more p n limit low (x ∷ xs) m l h = (h.0, omega (arith, h.1, m), one_more p n limit (x + 1) xs m (omega (arith, h.1)) h.2)

-- those below a number that pass a test
below_passing : (p : ℕ → Bool) (n : ℕ) → Ascend 0 n (filter p (below n))
below_passing p zero = tt
below_passing p (suc n) = subst (Ascend 0 (suc n)) (sym (passing_join p (below n) (n ∷ []))) (one_more p n (suc n) 0 (filter p (below n)) (omega arith) (omega arith) (below_passing p n))

higher : (low limit more : ℕ) (ns : List ℕ) → limit ≤ more → Ascend low limit ns → Ascend low more ns
higher low limit more [] l h = tt
higher low limit more (n ∷ ns) l h = (h.0, omega (arith, h.1, l), higher (n + 1) limit more ns l h.2)

pub below_ascend : (p : ℕ → Bool) (n limit : ℕ) → n ≤ limit → Ascend 0 limit (filter p (below n))
below_ascend p n limit l = higher 0 n limit (filter p (below n)) l (below_passing p n)

pub below_length : (p : ℕ → Bool) (n : ℕ) → length (filter p (below n)) ≤ n
below_length p n = let r = fewer (below n) in omega (arith, r, many n)
  where
    fewer : (xs : List ℕ) → length (filter p xs) ≤ length xs
    fewer [] = omega arith
    fewer (x ∷ xs) = by (p x) (fewer xs)
      where
        by : (b : Bool) → length (filter p xs) ≤ length xs → length (if b then x ∷ filter p xs else filter p xs) ≤ suc (length xs)
        by true r = omega (arith, r)
        by false r = omega (arith, r)

    join : (xs : List ℕ) (n : ℕ) → length (xs ++ n ∷ []) ≡ suc (length xs)
    join [] n = refl
    join (x ∷ xs) n = ap suc (join xs n)

    many : (n : ℕ) → length (below n) ≡ n
    many zero = refl
    many (suc n) = join (below n) n ∙ ap suc (many n)
