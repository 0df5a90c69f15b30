-- Lists that change hands one value at a time, from the last one on, and what stands at a number of them.
use Rattle.std.proofs.Common.{◌≡◌, ℕ, zero, suc, ◌+◌, ◌<◌, Some, List, [], ◌∷◌, ◌++◌, length, map, reverse, slice_get, refl, sym, ap, ◌∙◌, arith, append_assoc, append-nil}
use Rattle.std.proofs.lemmas.List.{map-append, reverse-append}
use Rattle.snap_hand.specs.protocol_laws.OneWay.{IsFront}

-- the last goes over to the end of a list that is read from its end
pub one_over : {A B C : Type 0} (f : A → C) (g : B → C) (fewer more : List A) (old new : List B) (a : A) (b : B) → more ≡ fewer ++ a ∷ [] → new ≡ old ++ b ∷ [] → f a ≡ g b
    → map f fewer ++ map g (reverse new) ≡ map f more ++ map g (reverse old)
one_over f g fewer more old new a b more_is new_is same =
    ap (λ bs. map f fewer ++ map g bs) (ap reverse new_is ∙ reverse-append old (b ∷ []))
    ∙ ap (λ c. map f fewer ++ c ∷ map g (reverse old)) (sym same)
    ∙ sym (append_assoc (map f fewer) (f a ∷ []) (map g (reverse old)))
    ∙ ap (λ cs. cs ++ map g (reverse old)) (sym (ap (map f) more_is ∙ map-append f fewer (a ∷ [])))

-- read from its end a list begins with its last
pub last_first : {B C : Type 0} (g : B → C) (old new : List B) (b : B) → new ≡ old ++ b ∷ [] → map g (reverse new) ≡ g b ∷ map g (reverse old)
last_first g old new b new_is = ap (map g) (ap reverse new_is ∙ reverse-append old (b ∷ []))

-- ---- fronts

pub whole_front : {X : Type 0} (xs : List X) → IsFront xs xs
whole_front xs = record { more = []; is = sym (append-nil xs) }

pub one_less : {X : Type 0} (xs ys all : List X) (x : X) → IsFront ys all → ys ≡ xs ++ x ∷ [] → IsFront xs all
one_less xs ys all x front is = record {
  more = x ∷ front.more;
  is = front.is ∙ (ap (λ zs. zs ++ front.more) is ∙ append_assoc xs (x ∷ []) front.more);
}

pub front_of_front : {X : Type 0} (xs ys all : List X) → IsFront xs ys → IsFront ys all → IsFront xs all
front_of_front xs ys all a b = record {
  more = a.more ++ b.more;
  is = b.is ∙ (ap (λ zs. zs ++ b.more) a.is ∙ append_assoc xs a.more b.more);
}

-- ---- by number

pub get_front : {X : Type 0} (xs rest : List X) (i : ℕ) → i < length xs → slice_get (xs ++ rest) i ≡ slice_get xs i
get_front [] rest i h = absurd (omega (arith, h))
get_front (x ∷ xs) rest zero h = refl
get_front (x ∷ xs) rest (suc i) h = get_front xs rest i (omega (arith, h))

pub get_behind : {X : Type 0} (xs ys : List X) (n i : ℕ) → length xs ≡ n → slice_get (xs ++ ys) (n + i) ≡ slice_get ys i
get_behind [] ys n i h = let e : n + i ≡ i = omega (arith, h) in ap (slice_get ys) e
get_behind (x ∷ xs) ys zero i h = absurd (omega (arith, h))
get_behind (x ∷ xs) ys (suc n) i h =
    let e : suc n + i ≡ suc (n + i) = omega arith in
    ap (slice_get (x ∷ (xs ++ ys))) e ∙ get_behind xs ys n i (omega (arith, h))

pub get_seam : {X : Type 0} (xs ys : List X) (y : X) (n : ℕ) → length xs ≡ n → slice_get (xs ++ y ∷ ys) n ≡ Some y
get_seam [] ys y n h = ap (slice_get (y ∷ ys)) (sym h)
get_seam (x ∷ xs) ys y zero h = absurd (omega (arith, h))
get_seam (x ∷ xs) ys y (suc n) h = get_seam xs ys y n (omega (arith, h))

pub get_of_front : {X : Type 0} (xs all : List X) (i : ℕ) → IsFront xs all → i < length xs → slice_get all i ≡ slice_get xs i
get_of_front xs all i front h = ap (λ zs. slice_get zs i) front.is ∙ get_front xs front.more i h

pub mapped_from : {A B : Type 0} (f : A → B) (xs : List A) (i : ℕ) (y : B) → slice_get (map f xs) i ≡ Some y → (x : A) × ((slice_get xs i ≡ Some x) × (f x ≡ y))
mapped_from f [] i y h = absurd (cc h)
mapped_from f (x ∷ xs) zero y h = (x, (refl, cc h))
mapped_from f (x ∷ xs) (suc i) y h = mapped_from f xs i y h

pub last_of : {X : Type 0} (xs : List X) (n : ℕ) → length xs ≡ suc n → (front : List X) × ((last : X) × ((xs ≡ front ++ last ∷ []) × (length front ≡ n)))
last_of [] n h = absurd (omega (arith, h))
last_of (x ∷ []) n h = ([], (x, (refl, omega (arith, h))))
last_of (x ∷ y ∷ xs) zero h = absurd (omega (arith, h))
last_of (x ∷ y ∷ xs) (suc n) h =
    let r = last_of (y ∷ xs) n (omega (arith, h)) in
    (x ∷ r.0, (r.1.0, (ap (λ zs. x ∷ zs) r.1.1.0, omega (arith, r.1.1.1))))
