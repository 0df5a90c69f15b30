-- What lists have.
use Rattle.std.specs.Prelude.{◌≡◌, refl, ℕ, zero, suc, ◌<◌, is_some, Bool, true, false, ◌||◌, if◌then◌else◌, Option, Some, None, List, [], ◌∷◌, ◌++◌, ◌⊎◌, length, map, filter, find, slice_get, slice_index_or, Contains}
use Rattle.std.specs.List.{list_any, flat_map}
use Rattle.std.proofs.Common.{arith, sym, ap, subst, inl, inr, ◌∙◌}
use Rattle.std.proofs.lemmas.Bool.{true≢false, cases_lt}
use Rattle.snap_base.proofs.Options.{same_some}
use Rattle.protocol.specs.Words.{holds, below}
use Rattle.protocol.specs.Numbers.{flat}

-- by recursion
abbrev pub Has : {X : Type 0} → List X → X → Type 0
Has [] x = ⊥
Has (y ∷ ys) x = (y ≡ x) ⊎ Has ys x

pub from_has : {X : Type 0} (xs : List X) (x : X) → Has xs x → Contains xs x
from_has [] x h = absurd h
from_has (y ∷ xs) x (inl e) = (0, omega arith, e)
from_has (y ∷ xs) x (inr h) = let r = from_has xs x h in (suc r.0, omega (arith, r.1), r.2)

pub to_has : {X : Type 0} (xs : List X) (x : X) → Contains xs x → Has xs x
to_has {X} xs x h = at xs x h.0 h.1 h.2
  where
    at : (xs : List X) (x : X) (i : ℕ) → i < length xs → slice_index_or xs i x ≡ x → Has xs x
    at [] x i h e = absurd (omega (arith, h))
    at (y ∷ xs) x zero h e = inl e
    at (y ∷ xs) x (suc i) h e = inr (at xs x i (omega (arith, h)) e)

pub has_left : {X : Type 0} (xs ys : List X) (x : X) → Has xs x → Has (xs ++ ys) x
has_left [] ys x h = absurd h
has_left (y ∷ xs) ys x (inl e) = inl e
has_left (y ∷ xs) ys x (inr h) = inr (has_left xs ys x h)

pub has_right : {X : Type 0} (xs ys : List X) (x : X) → Has ys x → Has (xs ++ ys) x
has_right [] ys x h = h
has_right (y ∷ xs) ys x h = inr (has_right xs ys x h)

pub has_parts : {X : Type 0} (xs ys : List X) (x : X) → Has (xs ++ ys) x → Has xs x ⊎ Has ys x
has_parts [] ys x h = inr h
has_parts (y ∷ xs) ys x (inl e) = inl (inl e)
has_parts (y ∷ xs) ys x (inr h) = elim (has_parts xs ys x h) [ inl a ↦ inl (inr a) | inr b ↦ inr b ]

pub has_map : {X Y : Type 0} (f : X → Y) (xs : List X) (x : X) → Has xs x → Has (map f xs) (f x)
has_map f [] x h = absurd h
has_map f (y ∷ xs) x (inl e) = inl (ap f e)
has_map f (y ∷ xs) x (inr h) = inr (has_map f xs x h)

pub has_filter : {X : Type 0} (p : X → Bool) (xs : List X) (x : X) → Has xs x → p x ≡ true → Has (filter p xs) x
has_filter p [] x h e = absurd h
has_filter p (y ∷ xs) x (inl q) e = let f : p y ≡ true = ap p q ∙ e in rw f (inl q)
has_filter p (y ∷ xs) x (inr h) e = by (p y) (has_filter p xs x h e)
  where
    by : (b : Bool) → Has (filter p xs) x → Has (if b then y ∷ filter p xs else filter p xs) x
    by true i = inr i
    by false i = i

pub from_filter : {X : Type 0} (p : X → Bool) (xs : List X) (x : X) → Has (filter p xs) x → Has xs x × (p x ≡ true)
from_filter p [] x h = absurd h
from_filter p (y ∷ xs) x h = by (p y) refl h (from_filter p xs x)
  where
    by : (b : Bool) → p y ≡ b → Has (if b then y ∷ filter p xs else filter p xs) x → (Has (filter p xs) x → Has xs x × (p x ≡ true)) → Has (y ∷ xs) x × (p x ≡ true)
    by true e (inl q) i = (inl q, ap p (sym q) ∙ e)
    by true e (inr g) i = let r = i g in (inr r.0, r.1)
    by false e g i = let r = i g in (inr r.0, r.1)

pub has_flat_map : {X Y : Type 0} (f : X → List Y) (xs : List X) (x : X) (y : Y) → Has xs x → Has (f x) y → Has (flat_map f xs) y
has_flat_map f [] x y h g = absurd h
has_flat_map f (z ∷ xs) x y (inl e) g = has_left (f z) (flat_map f xs) y (subst (λ v. Has (f v) y) (sym e) g)
has_flat_map f (z ∷ xs) x y (inr h) g = has_right (f z) (flat_map f xs) y (has_flat_map f xs x y h g)

-- the list at this place has it
pub has_at : {X : Type 0} (xss : List (List X)) (n : ℕ) (xs : List X) (x : X) → slice_get xss n ≡ Some xs → Has xs x → Has (flat xss) x
has_at [] n xs x e h = absurd (cc e)
has_at (ys ∷ xss) zero xs x e h = has_left ys (flat xss) x (subst (λ v. Has v x) (sym (same_some ys xs e)) h)
has_at (ys ∷ xss) (suc n) xs x e h = has_right ys (flat xss) x (has_at xss n xs x e h)

-- ---- what is found

pub record IsFound {X : Type 0} (p : X → Bool) (o : Option X) : Type 0 where
  pub it : X
  pub is : o ≡ Some it
  pub does : p it ≡ true

pub held : {X : Type 0} (p : X → Bool) (o : Option X) → holds p o ≡ true → IsFound p o
held p None h = absurd (true≢false (sym h))
held p (Some x) h = record { it = x; is = refl; does = h }

pub some : {X : Type 0} (o : Option X) → is_some o ≡ true → IsFound (λ x. true) o
some None h = absurd (true≢false (sym h))
some (Some x) h = record { it = x; is = refl; does = refl }

pub found_in : {X : Type 0} (p : X → Bool) (xs : List X) (x : X) → find p xs ≡ Some x → Has xs x × (p x ≡ true)
found_in p [] x e = absurd (cc e)
found_in p (y ∷ xs) x e = by (p y) refl e (found_in p xs x)
  where
    by : (b : Bool) → p y ≡ b → (if b then Some y else find p xs) ≡ Some x → (find p xs ≡ Some x → Has xs x × (p x ≡ true)) → Has (y ∷ xs) x × (p x ≡ true)
    by true f g i = let q = same_some y x g in (inl q, ap p (sym q) ∙ f)
    by false f g i = let r = i g in (inr r.0, r.1)

pub record IsAmong {X : Type 0} (p : X → Bool) (xs : List X) : Type 0 where
  pub it : X
  pub has : Has xs it
  pub does : p it ≡ true

pub any_of : {X : Type 0} (p : X → Bool) (xs : List X) → list_any p xs ≡ true → IsAmong p xs
any_of p [] h = absurd (true≢false (sym h))
any_of p (x ∷ xs) h = by (p x) refl h (any_of p xs)
  where
    by : (b : Bool) → p x ≡ b → (b || list_any p xs) ≡ true → (list_any p xs ≡ true → IsAmong p xs) → IsAmong p (x ∷ xs)
    by true e g i = record { it = x; has = inl refl; does = e }
    by false e g i = let r = i g in record { it = r.it; has = inr r.has; does = r.does }

pub at_found : {X : Type 0} (xs : List X) (i : ℕ) (d x : X) → slice_get xs i ≡ Some x → slice_index_or xs i d ≡ x
at_found [] i d x e = absurd (cc e)
at_found (y ∷ xs) zero d x e = same_some y x e
at_found (y ∷ xs) (suc i) d x e = at_found xs i d x e

pub is_within : {X : Type 0} (xs : List X) (i : ℕ) (x : X) → slice_get xs i ≡ Some x → i < length xs
is_within [] i x e = absurd (cc e)
is_within (y ∷ xs) zero x e = omega arith
is_within (y ∷ xs) (suc i) x e = omega (arith, is_within xs i x e)

pub has_below : (i n : ℕ) → i < n → Has (below n) i
has_below i zero h = absurd (omega (arith, h))
has_below i (suc n) h = elim (cases_lt i n) [ inl a ↦ has_left (below n) (n ∷ []) i (has_below i n a) | inr b ↦ has_right (below n) (n ∷ []) i (inl (omega (arith, h, b))) ]
