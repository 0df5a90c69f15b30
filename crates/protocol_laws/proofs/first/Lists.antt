-- Lists: what holds of each, and of one.
use Rattle.std.specs.Prelude.{Bool, List, None, Option, Some, [], false, filter, if◌then◌else◌, is_some, map, refl, slice_index_or, slice_set, suc, take, true, zero, ℕ, ◌++◌, ◌∷◌, ◌≡◌, ◌⊎◌}
use Rattle.std.specs.List.{AllByRecursion, list_all, list_any}
use Rattle.std.proofs.Common.{ap, inl, inr, subst, sym}
use Rattle.std.proofs.lemmas.Bool.{and_parts, or_cases, or_left, or_right, true≢false}
pub use Rattle.snap_base.proofs.Lists.{all_join, all_filter, weaker, both_all, all_found, all_get, all_set, all_back, all_front, all_mid, all_take, all_drop, all_of}
pub use Rattle.snap_base.proofs.Booleans.{or_true}
use Rattle.protocol.specs.Words.{holds}

pub all_map : {X Y : Type 0} (P : X → Type 0) (Q : Y → Type 0) (f : X → Y) (xs : List X) → ((x : X) → P x → Q (f x)) → AllByRecursion P xs → AllByRecursion Q (map f xs)
all_map P Q f [] k h = tt
all_map P Q f (x ∷ xs) k h = (k x h.0, all_map P Q f xs k h.1)

pub all_unmapped : {X Y : Type 0} (P : X → Type 0) (Q : Y → Type 0) (f : X → Y) (xs : List X) → ((x : X) → Q (f x) → P x) → AllByRecursion Q (map f xs) → AllByRecursion P xs
all_unmapped P Q f [] k h = tt
all_unmapped P Q f (x ∷ xs) k h = (k x h.0, all_unmapped P Q f xs k h.1)

-- what holds of each at its place holds after one is set, where it holds of that one
pub set_each : {X : Type 0} (Q : ℕ → X → Type 0) (xs : List X) (a : ℕ) (c d : X) → Q a c → ((i : ℕ) → Q i (slice_index_or xs i d)) → (i : ℕ) → Q i (slice_index_or (slice_set xs a c) i d)
set_each Q [] a c d q h i = h i
set_each Q (x ∷ xs) zero c d q h zero = q
set_each Q (x ∷ xs) zero c d q h (suc i) = h (suc i)
set_each Q (x ∷ xs) (suc a) c d q h zero = h zero
set_each Q (x ∷ xs) (suc a) c d q h (suc i) = set_each (λ j. Q (suc j)) xs a c d q (λ j. h (suc j)) i

-- over two lists that are alike in two things
pub all_alike : {X A B : Type 0} (f : X → A) (g : X → B) (P : X → Type 0) (xs ys : List X) → ((x y : X) → f y ≡ f x → g y ≡ g x → P x → P y) → map f ys ≡ map f xs → map g ys ≡ map g xs → AllByRecursion P xs → AllByRecursion P ys
all_alike f g P [] [] k e i h = tt
all_alike f g P [] (y ∷ ys) k e i h = absurd (cc e)
all_alike f g P (x ∷ xs) [] k e i h = absurd (cc e)
all_alike f g P (x ∷ xs) (y ∷ ys) k e i h = (k x y (cc e) (cc i) h.0, all_alike f g P xs ys k (cc e) (cc i) h.1)

pub all_alike3 : {X A B D : Type 0} (f : X → A) (g : X → B) (k : X → D) (P : X → Type 0) (xs ys : List X) → ((x y : X) → f y ≡ f x → g y ≡ g x → k y ≡ k x → P x → P y)
    → map f ys ≡ map f xs → map g ys ≡ map g xs → map k ys ≡ map k xs → AllByRecursion P xs → AllByRecursion P ys
all_alike3 f g k P [] [] m a b c h = tt
all_alike3 f g k P [] (y ∷ ys) m a b c h = absurd (cc a)
all_alike3 f g k P (x ∷ xs) [] m a b c h = absurd (cc a)
all_alike3 f g k P (x ∷ xs) (y ∷ ys) m a b c h = (m x y (cc a) (cc b) (cc c) h.0, all_alike3 f g k P xs ys m (cc a) (cc b) (cc c) h.1)

pub join_assoc : {X : Type 0} (xs ys zs : List X) → (xs ++ ys) ++ zs ≡ xs ++ (ys ++ zs)
join_assoc [] ys zs = refl
join_assoc (x ∷ xs) ys zs = ap (λ l. x ∷ l) (join_assoc xs ys zs)

pub join_nil : {X : Type 0} (xs : List X) → xs ++ [] ≡ xs
join_nil [] = refl
join_nil (x ∷ xs) = ap (λ l. x ∷ l) (join_nil xs)

pub filter_join : {X : Type 0} (p : X → Bool) (xs ys : List X) → filter p (xs ++ ys) ≡ filter p xs ++ filter p ys
filter_join p [] ys = refl
filter_join p (x ∷ xs) ys = by (p x) (filter_join p xs ys)
  where
    by : (b : Bool) → filter p (xs ++ ys) ≡ filter p xs ++ filter p ys → (if b then x ∷ filter p (xs ++ ys) else filter p (xs ++ ys)) ≡ (if b then x ∷ filter p xs else filter p xs) ++ filter p ys
    by true h = ap (λ l. x ∷ l) h
    by false h = h

pub any_join : {X : Type 0} (p : X → Bool) (xs ys : List X) → list_any p (xs ++ ys) ≡ true → (list_any p xs ≡ true) ⊎ (list_any p ys ≡ true)
any_join p [] ys h = inr h
any_join p (x ∷ xs) ys h = elim (or_cases (p x) (list_any p (xs ++ ys)) h) [
  | inl e ↦ inl (or_left (p x) (list_any p xs) e)
  | inr e ↦ elim (any_join p xs ys e) [ inl f ↦ inl (or_right (p x) (list_any p xs) f) | inr f ↦ inr f ]
]

pub any_take : {X : Type 0} (p : X → Bool) (n : ℕ) (xs : List X) → list_any p (take n xs) ≡ true → list_any p xs ≡ true
any_take p zero xs h = absurd (true≢false (sym h))
any_take p (suc n) [] h = h
any_take p (suc n) (x ∷ xs) h = elim (or_cases (p x) (list_any p (take n xs)) h) [ inl e ↦ or_left (p x) (list_any p xs) e | inr e ↦ or_right (p x) (list_any p xs) (any_take p n xs e) ]

pub any_front : {X : Type 0} (p : X → Bool) (xs ys : List X) → list_any p xs ≡ true → list_any p (xs ++ ys) ≡ true
any_front p [] ys h = absurd (true≢false (sym h))
any_front p (x ∷ xs) ys h = elim (or_cases (p x) (list_any p xs) h) [ inl e ↦ or_left (p x) (list_any p (xs ++ ys)) e | inr e ↦ or_right (p x) (list_any p (xs ++ ys)) (any_front p xs ys e) ]

pub some_of : {X : Type 0} (q : X → Bool) (o : Option X) (x : X) → o ≡ Some x → holds q o ≡ true → q x ≡ true
some_of q o x e h = subst (λ z. holds q z ≡ true) e h

pub list_all_mapped : {X : Type 0} (p : X → Bool) (f : X → X) (xs : List X) → ((x : X) → p x ≡ true → p (f x) ≡ true) → list_all p xs ≡ true → list_all p (map f xs) ≡ true
list_all_mapped p f [] k h = h
list_all_mapped p f (x ∷ xs) k h = let q = and_parts (p x) (list_all p xs) h in rw (k x q.0, list_all_mapped p f xs k q.1) refl

pub some_held : {X : Type 0} (p : X → Bool) (o : Option X) → holds p o ≡ true → is_some o ≡ true
some_held p None h = absurd (true≢false (sym h))
some_held p (Some x) h = refl
