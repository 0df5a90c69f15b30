-- Things that got numbers as they came, wherever they are kept.
use Rattle.std.specs.Prelude.{ℕ, zero, suc, ◌==◌, ◌≤◌, nat_lt, if◌then◌else◌, List, [], ◌++◌, length, filter}

module _ {X : Type 0} (number : X → ℕ) where
  -- those with this number
  abbrev pub numbered : ℕ → List X → List X
  numbered n xs = filter (λ x. number x == n) xs

  -- those with a smaller number, in the order of their numbers
  abbrev pub in_order : ℕ → List X → List X
  in_order zero xs = []
  in_order (suc n) xs = in_order n xs ++ numbered n xs

  -- of each number below the next one there is at most one, and of any other none
  abbrev pub IsNumbered : ℕ → List X → Type 0
  IsNumbered next xs = (n : ℕ) → length (numbered n xs) ≤ (if nat_lt n next then 1 else 0)
