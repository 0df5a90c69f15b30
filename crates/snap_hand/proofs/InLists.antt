-- Places of lists.
use Rattle.std.proofs.lemmas.List.{length-map}
use Rattle.std.proofs.lemmas.Option.{slice_get_read, slice_get_within}
use Rattle.std.proofs.Common.{◌≡◌, ◌≢◌, ℕ, zero, suc, ◌+◌, ◌<◌, get_or, Some, List, [], ◌∷◌, length, map, slice_get, slice_set, refl, ap, subst, arith}

pub set_other : {X : Type 0} (xs : List X) (i j : ℕ) (y : X) → j ≢ i → slice_get (slice_set xs i y) j ≡ slice_get xs j
set_other [] i j y n = refl
set_other (x ∷ xs) zero zero y n = absurd (n refl)
set_other (x ∷ xs) zero (suc j) y n = refl
set_other (x ∷ xs) (suc i) zero y n = refl
set_other (x ∷ xs) (suc i) (suc j) y n = set_other xs i j y (λ e. n (ap suc e))

pub set_same : {X : Type 0} (xs : List X) (i : ℕ) (y x : X) → slice_get (slice_set xs i y) i ≡ Some x → y ≡ x
set_same [] i y x h = absurd (cc h)
set_same (z ∷ xs) zero y x h = cc h
set_same (z ∷ xs) (suc i) y x h = set_same xs i y x h

-- what is read at a place at which something shows stands there
pub there_is : {X Y : Type 0} (f : X → Y) (xs : List X) (i : ℕ) (x : X) (y : Y) → x ≡ get_or xs i x → slice_get (map f xs) i ≡ Some y → slice_get xs i ≡ Some x
there_is f xs i x y is shows = slice_get_read xs (length xs) i x refl (subst (λ n. i < n) (length-map xs f) (slice_get_within (map f xs) i y shows)) is

pub behind_four : {X : Type 0} (a b c d : X) (xs : List X) (i n : ℕ) → n ≡ 4 + i → slice_get (a ∷ b ∷ c ∷ d ∷ xs) n ≡ slice_get xs i
behind_four a b c d xs i zero e = absurd (omega (arith, e))
behind_four a b c d xs i (suc zero) e = absurd (omega (arith, e))
behind_four a b c d xs i (suc (suc zero)) e = absurd (omega (arith, e))
behind_four a b c d xs i (suc (suc (suc zero))) e = absurd (omega (arith, e))
behind_four a b c d xs i (suc (suc (suc (suc n)))) e = ap (slice_get xs) (omega (arith, e))
