-- What stands at a number: in a list that reaches it or not, and at the numbers of a footprint.
use Rattle.std.specs.Prelude.{◌≡◌, ◌≢◌, ℕ, zero, suc, ◌+◌, ◌<◌, Bool, true, false, List, [], ◌∷◌, Option, Some, None, IsSome, map, length, slice_index, slice_set, slice_get, nat_eq, nat_lt, ⊤}
pub use Rattle.snap_base.specs.Numbers.{total}

-- 1 where the test is true, and else 0
abbrev pub count_if : Bool → ℕ
count_if true = 1
count_if false = 0

-- 1 where there is a value, and else 0
abbrev pub one : {P : Type 0} → Option P → ℕ
one None = 0
one (Some p) = 1

module _ {P : Type 0} where
  -- what the list holds at a number, and nothing past its end
  abbrev pub at : List (Option P) → ℕ → Option P
  at [] i = None
  at (h ∷ hs) zero = h
  at (h ∷ hs) (suc i) = at hs i

  -- the same list, with this at the number
  abbrev pub put_at : List (Option P) → ℕ → Option P → List (Option P)
  put_at [] zero x = x ∷ []
  put_at [] (suc i) x = None ∷ put_at [] i x
  put_at (h ∷ hs) zero x = x ∷ hs
  put_at (h ∷ hs) (suc i) x = h ∷ put_at hs i x

  -- nothing is held
  abbrev pub IsIdle : List (Option P) → Type 0
  IsIdle held = (i : ℕ) → at held i ≡ None

  -- f has a value at each of the numbers
  abbrev pub Covers : (ℕ → Option P) → List ℕ → Type 0
  Covers f [] = ⊤
  Covers f (i ∷ is) = IsSome (f i) × Covers f is

  abbrev pub before : Option P → List P → List P
  before None ps = ps
  before (Some p) ps = p ∷ ps

  -- the values of f at the numbers, in their order
  abbrev pub values : (ℕ → Option P) → List ℕ → List P
  values f [] = []
  values f (i ∷ is) = before (f i) (values f is)

  -- the parts, with these values at the numbers
  abbrev pub replaced : List P → List ℕ → List P → List P
  replaced xs [] ps = xs
  replaced xs (i ∷ is) [] = xs
  replaced xs (i ∷ is) (p ∷ ps) = replaced (slice_set xs i p) is ps

  -- what is held, with these values at the numbers
  abbrev pub held_after : List (Option P) → List ℕ → List P → List (Option P)
  held_after hs [] ps = hs
  held_after hs (i ∷ is) [] = hs
  held_after hs (i ∷ is) (p ∷ ps) = held_after (put_at hs i (Some p)) is ps

-- the number is not one of these
abbrev pub IsNoneOf : ℕ → List ℕ → Type 0
IsNoneOf i [] = ⊤
IsNoneOf i (j ∷ js) = (i ≢ j) × IsNoneOf i js

module _ {E : Type 0} where
  -- how often a number stands in the entries
  abbrev pub times : ℕ → List (ℕ × E) → ℕ
  times k [] = 0
  times k (e ∷ es) = count_if (nat_eq e.0 k) + times k es

  -- each entry's event is at its number in the history
  abbrev pub Stand : List E → List (ℕ × E) → Type 0
  Stand history [] = ⊤
  Stand history (e ∷ es) = (slice_get history e.0 ≡ Some e.1) × Stand history es

  abbrev pub numbers : List (ℕ × E) → List ℕ
  numbers es = map (λ e. e.0) es

  -- the entries stand in the order of their numbers, no two of which are the same
  abbrev pub Ascending : List (ℕ × E) → Type 0
  Ascending es = (i j : ℕ) → i < j → j < length es → slice_index (numbers es) i < slice_index (numbers es) j

  -- each of the entries has a smaller number
  abbrev pub AllBefore : ℕ → List (ℕ × E) → Type 0
  AllBefore n [] = ⊤
  AllBefore n (e ∷ es) = (e.0 < n) × AllBefore n es

-- 1 for a number below n, and else 0
abbrev pub once_below : ℕ → ℕ → ℕ
once_below k n = count_if (nat_lt k n)

module _ {E : Type 0} where
  -- these are the events of the history with their numbers: each stands at its number, and each number below the history's length is there once
  pub record Records (history : List E) (entries : List (ℕ × E)) : Type 0 where
    pub stand : Stand history entries
    pub once : (k : ℕ) → times k entries ≡ once_below k (length history)
    pub many : length entries ≡ length history

-- the same entries, perhaps in another order
pub record SameEntries {E : Type 0} (xs ys : List (ℕ × E)) : Type 0 where
  pub counts : (k : ℕ) → times k xs ≡ times k ys
  pub many : length xs ≡ length ys
  pub stand : (history : List E) → Stand history xs → Stand history ys
