-- A footprint that is looked through, number by number.
use Rattle.std.proofs.Common.{◌≡◌, ◌≢◌, ℕ, zero, suc, ◌+◌, ◌≤◌, ◌||◌, ◌==◌, ◌⊎◌, Bool, true, false, inl, inr, List, [], ◌∷◌, ◌++◌, length, take, slice_get, Some, ap, sym, subst, refl, ◌∙◌, arith, add-one, true≢false}
use Rattle.std.proofs.lemmas.Bool.{or_parts}
use Rattle.std.proofs.lemmas.Bool.Decides.{eqb_tells}
use Rattle.snap_base.proofs.Lists.{take_next}
use Rattle.protocol.specs.Words.{is_among}

equal : (x n : ℕ) → x ≡ n → (x == n) ≡ true
equal x n e = elim (eqb_tells x n) [ inl h ↦ h.0 | inr h ↦ absurd (h.1 e) ]

unequal : (x n : ℕ) → x ≢ n → (x == n) ≡ false
unequal x n ne = elim (eqb_tells x n) [ inl h ↦ absurd (ne h.1) | inr h ↦ h.0 ]

among_more : (n : ℕ) (xs : List ℕ) (x : ℕ) → is_among n xs ≡ false → (x == n) ≡ false → is_among n (xs ++ x ∷ []) ≡ false
among_more n [] x e d = ap (λ b. b || false) d
among_more n (y ∷ ys) x e d = let parts = or_parts (y == n) (is_among n ys) e in ap (λ b. b || is_among n (ys ++ x ∷ [])) parts.0 ∙ among_more n ys x parts.1 d

-- it is not one of those so far, nor this one
pub not_yet : (n : ℕ) (xs : List ℕ) (i x : ℕ) → slice_get xs i ≡ Some x → is_among n (take i xs) ≡ false → x ≢ n → is_among n (take (i + 1) xs) ≡ false
not_yet n xs i x here before other =
    subst (λ k. is_among n (take k xs) ≡ false) (sym (add-one i)) (subst (λ ys. is_among n ys ≡ false) (sym (take_next xs i x here)) (among_more n (take i xs) x before (unequal x n other)))

-- it is this one
pub found : (n : ℕ) (xs : List ℕ) (i x : ℕ) → slice_get xs i ≡ Some x → x ≡ n → is_among n xs ≡ true
found n [] i x here same = absurd (cc here)
found n (y ∷ ys) zero x here same = (let one : y ≡ x = cc here in ap (λ b. b || is_among n ys) (equal y n (one ∙ same)))
found n (y ∷ ys) (suc i) x here same = or_true (y == n) (is_among n ys) (found n ys i x here same) where
  or_true : (a b : Bool) → b ≡ true → (a || b) ≡ true
  or_true true b e = refl
  or_true false b e = e

pub all_taken : {X : Type 0} (xs : List X) (i : ℕ) → length xs ≤ i → take i xs ≡ xs
all_taken [] zero h = refl
all_taken [] (suc i) h = refl
all_taken (x ∷ xs) zero h = absurd (omega (arith, h))
all_taken (x ∷ xs) (suc i) h = ap (λ ys. x ∷ ys) (all_taken xs i (omega (arith, h)))

-- one of those so far and the next
pub among_next : (j : ℕ) (xs : List ℕ) (i x : ℕ) → slice_get xs i ≡ Some x → is_among j (take (i + 1) xs) ≡ true → (is_among j (take i xs) ≡ true) ⊎ (x ≡ j)
among_next j xs i x here now = elim (eqb_tells x j) [
  | inl h ↦ inr h.1
  | inr h ↦ inl (before (is_among j (take i xs)) refl h.1)
] where
  before : (b : Bool) → is_among j (take i xs) ≡ b → x ≢ j → is_among j (take i xs) ≡ true
  before true q other = q
  before false q other = absurd (true≢false (sym now ∙ not_yet j xs i x here q other))
