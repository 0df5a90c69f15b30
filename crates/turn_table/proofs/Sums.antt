-- A number of each view, added up.
use Rattle.std.proofs.Common.{◌≡◌, ◌≢◌, ℕ, zero, suc, ◌+◌, ◌*◌, ◌≤◌, List, [], ◌∷◌, ◌++◌, set, ap, sym, refl, arith}
use mathlib.Core.Option.{some, some-injective, some-ne-none}
use lib.ListN.{get_elem?}
use Rattle.turn_table.specs.Places.{total}

module _ {V : Type 0} (f : V → ℕ) where
  pub total_set : (vs : List V) (j : ℕ) (v w : V) → get_elem? vs j ≡ some v → total f (set vs j w) + f v ≡ total f vs + f w
  total_set [] j v w e = absurd (some-ne-none v (sym e))
  total_set (u ∷ us) zero v w e = let q : f u ≡ f v = ap f (some-injective u v e) in omega arith
  total_set (u ∷ us) (suc j) v w e = let q = total_set us j v w e in omega arith

  pub total_snoc : (vs : List V) (v : V) → total f (vs ++ v ∷ []) ≡ total f vs + f v
  total_snoc [] v = omega arith
  total_snoc (u ∷ us) v = let q = total_snoc us v in omega arith

  pub total_one : (vs : List V) (j : ℕ) (v : V) → get_elem? vs j ≡ some v → f v ≤ total f vs
  total_one [] j v e = absurd (some-ne-none v (sym e))
  total_one (u ∷ us) zero v e = let q : f u ≡ f v = ap f (some-injective u v e) in omega arith
  total_one (u ∷ us) (suc j) v e = let q = total_one us j v e in omega arith

  pub total_two : (vs : List V) (i j : ℕ) (v w : V) → get_elem? vs i ≡ some v → get_elem? vs j ≡ some w → i ≢ j → f v + f w ≤ total f vs
  total_two [] i j v w d e n = absurd (some-ne-none v (sym d))
  total_two (u ∷ us) zero zero v w d e n = absurd (n refl)
  total_two (u ∷ us) zero (suc j) v w d e n = let q : f u ≡ f v = ap f (some-injective u v d) in let o = total_one us j w e in omega arith
  total_two (u ∷ us) (suc i) zero v w d e n = let q : f u ≡ f w = ap f (some-injective u w e) in let o = total_one us i v d in omega arith
  total_two (u ∷ us) (suc i) (suc j) v w d e n = let o = total_two us i j v w d e (λ h. n (ap suc h)) in omega arith

  pub total_none : (vs : List V) → ((j : ℕ) (v : V) → get_elem? vs j ≡ some v → f v ≡ 0) → total f vs ≡ 0
  total_none [] h = refl
  total_none (u ∷ us) h = let a = h zero u refl in let b = total_none us (λ j v e. h (suc j) v e) in omega arith

  pub total_alone : (vs : List V) (j : ℕ) (v : V) → get_elem? vs j ≡ some v → ((i : ℕ) (u : V) → i ≢ j → get_elem? vs i ≡ some u → f u ≡ 0) → total f vs ≡ f v
  total_alone [] j v e h = absurd (some-ne-none v (sym e))
  total_alone (u ∷ us) zero v e h =
      let q : f u ≡ f v = ap f (some-injective u v e) in
      let z = total_none us (λ i w d. h (suc i) w (λ c. absurd (omega arith)) d) in
      omega arith
  total_alone (u ∷ us) (suc j) v e h =
      let a = h zero u (λ c. absurd (omega arith)) refl in
      let b = total_alone us j v e (λ i w n d. h (suc i) w (λ c. n (omega arith)) d) in
      omega arith

module _ {V : Type 0} (f g : V → ℕ) where
  pub total_le : (vs : List V) → ((j : ℕ) (v : V) → get_elem? vs j ≡ some v → f v ≤ g v) → total f vs ≤ total g vs
  total_le [] h = omega arith
  total_le (u ∷ us) h = let a = h zero u refl in let b = total_le us (λ j v e. h (suc j) v e) in omega arith

-- times a number that no table's events reach
pub total_times : {V : Type 0} (f : V → ℕ) (vs : List V) → total (λ v. f v * 4294967296) vs ≡ total f vs * 4294967296
total_times f [] = refl
total_times f (u ∷ us) = let q = total_times f us in omega arith
