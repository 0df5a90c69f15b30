-- Booleans, and tests of numbers.
use Rattle.std.proofs.Common.{◌≡◌, ℕ, ◌<◌, Bool, true, false, refl, sym, arith, not, inl, inr, ◌&&◌, ◌||◌}
use Rattle.std.specs.Prelude.{nat_lt, ◌==◌, ◌⊎◌}
use Rattle.std.proofs.lemmas.Bool.{true≢false, or_cases, ltb-true, ltb-false, eq-eqb, eqb-true, eqb-false, ne_eqb}

-- ---- both

pub first_true : (a b : Bool) → (a && b) ≡ true → a ≡ true
first_true true b h = refl
first_true false b h = absurd cc

pub second_true : (a b : Bool) → (a && b) ≡ true → b ≡ true
second_true true b h = h
second_true false b h = absurd cc

pub and_true : (b : Bool) → (b && true) ≡ b
and_true true = refl
and_true false = refl

pub and_false : (b : Bool) → (b && false) ≡ false
and_false true = refl
and_false false = refl

-- ---- one of them

pub first_false : (a b : Bool) → (a || b) ≡ false → a ≡ false
first_false true b h = absurd cc
first_false false b h = refl

pub second_false : (a b : Bool) → (a || b) ≡ false → b ≡ false
second_false true b h = absurd cc
second_false false b h = h

pub or_true : (b : Bool) → (b || true) ≡ true
or_true true = refl
or_true false = refl

pub or_false : (b : Bool) → (b || false) ≡ b
or_false true = refl
or_false false = refl

pub or_only : (x y : Bool) → y ≡ false → (x || y) ≡ x
or_only true y h = refl
or_only false y h = h

pub or_assoc : (a b c : Bool) → (a || (b || c)) ≡ ((a || b) || c)
or_assoc true b c = refl
or_assoc false b c = refl

pub either_way : {X : Type 0} (b c : Bool) → (b || c) ≡ true → (b ≡ true → X) → (c ≡ true → X) → X
either_way b c h f g = elim (or_cases b c h) [ inl x ↦ f x | inr y ↦ g y ]

-- ---- not

pub not_false : (b : Bool) → not b ≡ true → b ≡ false
not_false true q = absurd (true≢false (sym q))
not_false false q = refl

pub not_so : {X : Type 0} → false ≡ true → X
not_so h = absurd (true≢false (sym h))

-- ---- numbers

pub eqb_turned : (a b : ℕ) (c : Bool) → (a == b) ≡ c → (b == a) ≡ c
eqb_turned a b true e = eq-eqb b a (sym (eqb-true a b e))
eqb_turned a b false e = ne_eqb b a (λ (same : b ≡ a). eqb-false a b e (sym same))

pub three_ways : (a b : ℕ) → (a < b) ⊎ ((a ≡ b) ⊎ (b < a))
three_ways a b = by (nat_lt a b) refl (nat_lt b a) refl
  where
    by : (v : Bool) → nat_lt a b ≡ v → (u : Bool) → nat_lt b a ≡ u → (a < b) ⊎ ((a ≡ b) ⊎ (b < a))
    by true e u f = inl (ltb-true a b e)
    by false e true f = inr (inr (ltb-true b a f))
    by false e false f = inr (inl (omega (arith, ltb-false a b e, ltb-false b a f)))
