-- What lists have.
use Rattle.std.specs.List.{flat_map, list_all}
use Rattle.std.proofs.Common.{◌≡◌, ℕ, zero, suc, ◌+◌, ◌<◌, slice_index_or, Bool, true, false, ◌&&◌, ◌⊎◌, Contains, Some, slice_get, List, [], ◌∷◌, length, take, add-one, refl, sym, ap, subst, inl, inr, ◌∙◌, arith}
use Rattle.std.proofs.lemmas.Bool.{true≢false, and_parts}
use Rattle.std.proofs.lemmas.Option.{get_or_from_slice_get, same_Some, slice_get_within}
use Rattle.std.proofs.lemmas.List.Elements.{Contains-append_left, Contains-append_right}
pub use Rattle.protocol_laws.proofs.first.Candidates.{in_below}

pub first_of_all : {X : Type 0} (xs : List X) (x : X) → Contains (x ∷ xs) x
first_of_all xs x = (0, omega arith, refl)

-- what stands at a place
pub placed : {X : Type 0} (xs : List X) (i : ℕ) (x : X) → slice_get xs i ≡ Some x → Contains xs x
placed xs i x e = (i, slice_get_within xs i x e, get_or_from_slice_get xs i x x e)

pub of_cons : {X : Type 0} (xs : List X) (y x : X) → Contains (y ∷ xs) x → (y ≡ x) ⊎ Contains xs x
of_cons {X} xs y x h = at h.0 h.1 h.2
  where
    at : (i : ℕ) → i < length (y ∷ xs) → slice_index_or (y ∷ xs) i x ≡ x → (y ≡ x) ⊎ Contains xs x
    at zero h e = inl e
    at (suc i) h e = inr (i, omega (arith, h), e)

pub in_flat_map : {X Y : Type 0} (f : X → List Y) (xs : List X) (x : X) (y : Y) → Contains xs x → Contains (f x) y → Contains (flat_map f xs) y
in_flat_map f [] x y h g = absurd (omega (arith, h.1))
in_flat_map f (z ∷ xs) x y h g = elim (of_cons xs z x h) [
  | inl e ↦ Contains-append_left (f z) (flat_map f xs) y (subst (λ v. Contains (f v) y) (sym e) g)
  | inr i ↦ Contains-append_right (f z) (flat_map f xs) y (in_flat_map f xs x y i g)
]

-- ---- a test of all

pub all_has : {X : Type 0} (p : X → Bool) (xs : List X) (x : X) → list_all p xs ≡ true → Contains xs x → p x ≡ true
all_has p [] x h c = absurd (omega (arith, c.1))
all_has p (y ∷ xs) x h c =
    let b = and_parts (p y) (list_all p xs) h in
    elim (of_cons xs y x c) [ inl e ↦ ap p (sym e) ∙ b.0 | inr i ↦ all_has p xs x b.1 i ]

pub not_all : {X : Type 0} (p : X → Bool) (xs : List X) (i : ℕ) (x : X) → slice_get xs i ≡ Some x → p x ≡ false → list_all p xs ≡ false
not_all p [] i x e h = absurd (cc e)
not_all p (y ∷ xs) zero x e h = by (p y) (ap p (same_Some y x e) ∙ h)
  where
    by : (b : Bool) → b ≡ false → (b && list_all p xs) ≡ false
    by true q = absurd (true≢false q)
    by false q = refl
not_all p (y ∷ xs) (suc i) x e h = by (p y) (not_all p xs i x e h)
  where
    by : (b : Bool) → list_all p xs ≡ false → (b && list_all p xs) ≡ false
    by true q = q
    by false q = refl

pub all_more : {X : Type 0} (p : X → Bool) (xs : List X) (i : ℕ) (x : X) → slice_get xs i ≡ Some x → list_all p (take i xs) ≡ true → p x ≡ true → list_all p (take (i + 1) xs) ≡ true
all_more {X} p xs i x e so_far h = subst (λ n. list_all p (take n xs) ≡ true) (sym (add-one i)) (at xs i e so_far)
  where
    at : (xs : List X) (i : ℕ) → slice_get xs i ≡ Some x → list_all p (take i xs) ≡ true → list_all p (take (suc i) xs) ≡ true
    at [] i e g = absurd (cc e)
    at (y ∷ xs) zero e g = by (p y) (ap p (same_Some y x e) ∙ h)
      where
        by : (b : Bool) → b ≡ true → (b && true) ≡ true
        by true q = refl
        by false q = q
    at (y ∷ xs) (suc i) e g =
        let b = and_parts (p y) (list_all p (take i xs)) g in
        by (p y) b.0 (at xs i e b.1)
      where
        by : (b : Bool) → b ≡ true → list_all p (take (suc i) xs) ≡ true → (b && list_all p (take (suc i) xs)) ≡ true
        by true q r = r
        by false q r = q
