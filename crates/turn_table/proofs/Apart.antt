-- Entries that leave a part out, from a number on.
use Rattle.std.proofs.Common.{◌≡◌, ℕ, ◌≤◌, List, [], ◌∷◌, ◌++◌, Option, Some, ap, ◌∙◌, arith}
use Rattle.turn_table.specs.Places.{at, Covers, AllBefore, IsNoneOf}
use Rattle.turn_table.specs.Runs.{AllLeaveFrom}
use Rattle.turn_table.proofs.ByPlace.{some_of}

module _ {E : Type 0} (footprint : E → List ℕ) where
  pub leave-append : (i n : ℕ) (xs ys : List (ℕ × E)) → AllLeaveFrom footprint i n xs → AllLeaveFrom footprint i n ys → AllLeaveFrom footprint i n (xs ++ ys)
  leave-append i n [] ys a b = b
  leave-append i n (x ∷ xs) ys a b = (a.0, leave-append i n xs ys a.1 b)

  -- none of them has such a number
  pub leave_past : (i n m : ℕ) (es : List (ℕ × E)) → AllBefore m es → m ≤ n → AllLeaveFrom footprint i n es
  leave_past i n m [] b h = tt
  leave_past i n m (e ∷ es) b h = ((λ le. absurd (let c = b.0 in omega arith)), leave_past i n m es b.1 h)

-- a part that is not held is not among those that are covered
pub not_covered : {P : Type 0} (hs : List (Option P)) (is : List ℕ) (i : ℕ) → Covers (at hs) is → ((q : P) → at hs i ≡ Some q → ⊥) → IsNoneOf i is
not_covered hs [] i c free = tt
not_covered hs (j ∷ js) i c free = (
  (λ e. let o = some_of (at hs j) c.0 in free o.0 (ap (at hs) e ∙ o.1)),
  not_covered hs js i c.1 free,
)
