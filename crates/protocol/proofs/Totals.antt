-- Totals, and how they are counted one by one up to the greatest number of 64 bits.
use Rattle.std.proofs.Common.{◌≡◌, ℕ, zero, suc, ◌+◌, ◌-◌, ◌^◌, ◌<◌, ◌≤◌, min, Bool, true, false, cond, List, [], ◌∷◌, ◌++◌, length, map, drop, get_or, Some, refl, ap, ◌∙◌, arith}
use Rattle.std.specs.Prelude.{slice_get}
use Rattle.std.proofs.lemmas.List.{drop_all, drop_more}
use Rattle.protocol.specs.Left.{total}

-- ---- totals

pub total-map : {X Y : Type 0} (f : Y → ℕ) (g : X → Y) (xs : List X) → total f (map g xs) ≡ total (λ x. f (g x)) xs
total-map f g [] = refl
total-map f g (x ∷ xs) = ap (λ n. f (g x) + n) (total-map f g xs)

module _ {X : Type 0} (f : X → ℕ) where
  pub total-append : (xs ys : List X) → total f (xs ++ ys) ≡ total f xs + total f ys
  total-append [] ys = omega arith
  total-append (x ∷ xs) ys = omega (arith, total-append xs ys)

  -- with one more where a test passes
  pub total-cond : (b : Bool) (x : X) (xs : List X) → total f (cond b (x ∷ xs) xs) ≡ total f (cond b (x ∷ []) []) + total f xs
  total-cond true x xs = omega arith
  total-cond false x xs = omega arith

-- ---- counted one by one

-- up to the greatest number of 64 bits: this much is counted of the first i
abbrev pub IsCounted : {X : Type 0} → (X → ℕ) → List X → ℕ → ℕ → Type 0
IsCounted f xs i n = (n ≤ 2 ^ 64 - 1) × (min (n + total f (drop i xs)) (2 ^ 64 - 1) ≡ min (total f xs) (2 ^ 64 - 1))

pub counted_all : {X : Type 0} (f : X → ℕ) (xs : List X) (i n : ℕ) → length xs ≤ i → IsCounted f xs i n → n ≡ min (total f xs) (2 ^ 64 - 1)
counted_all f xs i n all is =
    let none : total f (drop i xs) ≡ 0 = ap (total f) (drop_all i xs all) in
    omega (arith, none, is.0, is.1)

there : {X : Type 0} (xs : List X) (i : ℕ) (x : X) → slice_get xs i ≡ Some x → (i < length xs) × (get_or xs i x ≡ x)
there [] i x e = absurd (cc e)
there (y ∷ ys) zero x e = (omega arith, cc e)
there (y ∷ ys) (suc i) x e = let r = there ys i x e in (omega (arith, r.0), r.1)

-- the one at this place is counted too
pub counted_more : {X : Type 0} (f : X → ℕ) (xs : List X) (i : ℕ) (x : X) (before after one : ℕ)
    → slice_get xs i ≡ Some x → one ≡ min (f x) (2 ^ 64 - 1) → after ≡ min (before + one) (2 ^ 64 - 1) → IsCounted f xs i before → (i + 1 ≤ length xs) × IsCounted f xs (i + 1) after
counted_more f xs i x before after one at is more so_far =
    let r = there xs i x at in
    let here : total f (drop i xs) ≡ f x + total f (drop (i + 1) xs) = ap (total f) (drop_more xs i x r.0) ∙ ap (λ y. f y + total f (drop (i + 1) xs)) r.1 in
    (omega (arith, r.0), (omega (arith, more), omega (arith, here, so_far.0, so_far.1)))
