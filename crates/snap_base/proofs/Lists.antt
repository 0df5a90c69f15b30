-- Lists: their parts, what holds of each element, and one of them.
use Rattle.std.proofs.Common.{◌≡◌, ◌≢◌, ℕ, zero, suc, ◌+◌, ◌<◌, ◌≤◌, Bool, true, false, List, [], ◌∷◌, ◌++◌, length, map, drop, get_or, refl, sym, ap, ◌∙◌, subst, arith, take, add-one, Some, None}
use Rattle.std.specs.Prelude.{find, filter, slice_get, slice_set, slice_index_or, if◌then◌else◌}
use Rattle.std.specs.List.{AllByRecursion, AllZip, flat_map}
use Rattle.std.proofs.lemmas.Bool.{true≢false}
use Rattle.std.proofs.lemmas.List.{take_at, drop_at, take_more, append-nil}
use Rattle.std.proofs.lemmas.List.Concat.{flat_map-append}

-- ---- parts

pub take_next : {X : Type 0} (xs : List X) (i : ℕ) (x : X) → slice_get xs i ≡ Some x → take (suc i) xs ≡ take i xs ++ x ∷ []
take_next [] i x e = absurd (cc e)
take_next (y ∷ ys) zero x e = (let same : y ≡ x = cc e in ap (λ z. z ∷ []) same)
take_next (y ∷ ys) (suc i) x e = ap (λ zs. y ∷ zs) (take_next ys i x e)

pub same_front : (a x b y : List ℕ) → length a ≡ length b → a ++ x ≡ b ++ y → (a ≡ b) × (x ≡ y)
same_front a x b y len e = (
  sym (take_at a x (length a) refl) ∙ ap (take (length a)) e ∙ take_at b y (length a) (sym len),
  sym (drop_at a x (length a) refl) ∙ ap (drop (length a)) e ∙ drop_at b y (length a) (sym len),
)

pub nothing_left : {X : Type 0} (xs : List X) → length xs ≡ 0 → xs ≡ []
nothing_left [] h = refl
nothing_left (x ∷ xs) h = absurd (omega (arith, h))

pub flat_step : {X Y : Type 0} (f : X → List Y) (xs : List X) (i : ℕ) (x : X) → i < length xs → x ≡ get_or xs i x → flat_map f (take (i + 1) xs) ≡ flat_map f (take i xs) ++ f x
flat_step f xs i x l e =
    ap (flat_map f) (take_more xs i x l ∙ ap (λ z. take i xs ++ z ∷ []) (sym e)) ∙ flat_map-append f (take i xs) (x ∷ []) ∙ ap (λ (z : List _). flat_map f (take i xs) ++ z) (append-nil (f x))

-- ---- what holds of each: of a longer list, of its parts

pub all_push : {X : Type 0} (P : X → Type 0) (xs : List X) (x : X) → AllByRecursion P xs → P x → AllByRecursion P (xs ++ x ∷ [])
all_push P [] x h here = (here, tt)
all_push P (y ∷ ys) x h here = (h.0, all_push P ys x h.1 here)

pub all_join : {X : Type 0} (P : X → Type 0) (xs ys : List X) → AllByRecursion P xs → AllByRecursion P ys → AllByRecursion P (xs ++ ys)
all_join P [] ys h k = k
all_join P (x ∷ xs) ys h k = (h.0, all_join P xs ys h.1 k)

pub all_front : {X : Type 0} (P : X → Type 0) (xs ys : List X) → AllByRecursion P (xs ++ ys) → AllByRecursion P xs
all_front P [] ys h = tt
all_front P (x ∷ xs) ys h = (h.0, all_front P xs ys h.1)

pub all_back : {X : Type 0} (P : X → Type 0) (xs ys : List X) → AllByRecursion P (xs ++ ys) → AllByRecursion P ys
all_back P [] ys h = h
all_back P (x ∷ xs) ys h = all_back P xs ys h.1

pub all_mid : {X : Type 0} (P : X → Type 0) (x : X) (front rest : List X) → AllByRecursion P (front ++ x ∷ rest) → P x
all_mid P x [] rest h = h.0
all_mid P x (y ∷ ys) rest h = all_mid P x ys rest h.1

pub all_but_last : {X : Type 0} (P : X → Type 0) (xs : List X) (x : X) → AllByRecursion P (xs ++ x ∷ []) → AllByRecursion P xs
all_but_last P [] x h = tt
all_but_last P (y ∷ ys) x h = (h.0, all_but_last P ys x h.1)

pub all_last : {X : Type 0} (P : X → Type 0) (xs : List X) (x : X) → AllByRecursion P (xs ++ x ∷ []) → P x
all_last P [] x h = h.0
all_last P (y ∷ ys) x h = all_last P ys x h.1

pub all_take : {X : Type 0} (P : X → Type 0) (k : ℕ) (xs : List X) → AllByRecursion P xs → AllByRecursion P (take k xs)
all_take P zero xs h = tt
all_take P (suc k) [] h = tt
all_take P (suc k) (x ∷ xs) h = (h.0, all_take P k xs h.1)

pub all_drop : {X : Type 0} (P : X → Type 0) (k : ℕ) (xs : List X) → AllByRecursion P xs → AllByRecursion P (drop k xs)
all_drop P zero xs h = h
all_drop P (suc k) [] h = tt
all_drop P (suc k) (x ∷ xs) h = all_drop P k xs h.1

pub all_set : {X : Type 0} (P : X → Type 0) (xs : List X) (i : ℕ) (y : X) → P y → AllByRecursion P xs → AllByRecursion P (slice_set xs i y)
all_set P [] i y p h = tt
all_set P (x ∷ xs) zero y p h = (p, h.1)
all_set P (x ∷ xs) (suc i) y p h = (h.0, all_set P xs i y p h.1)

pub all_filter : {X : Type 0} (P : X → Type 0) (p : X → Bool) (xs : List X) → AllByRecursion P xs → AllByRecursion P (filter p xs)
all_filter P p [] h = tt
all_filter P p (x ∷ xs) h = by (p x) (all_filter P p xs h.1)
  where
    by : (b : Bool) → AllByRecursion P (filter p xs) → AllByRecursion P (if b then x ∷ filter p xs else filter p xs)
    by true k = (h.0, k)
    by false k = k

pub all_map : {X Y : Type 0} (f : X → Y) (P : Y → Type 0) (xs : List X) → AllByRecursion (λ x. P (f x)) xs → AllByRecursion P (map f xs)
all_map f P [] h = tt
all_map f P (x ∷ xs) h = (h.0, all_map f P xs h.1)

pub all_step : {X : Type 0} (P : X → Type 0) (xs : List X) (i : ℕ) (x : X) → i < length xs → x ≡ get_or xs i x → AllByRecursion P (take i xs) → P x → AllByRecursion P (take (i + 1) xs)
all_step P xs i x l e h p = subst (AllByRecursion P) (sym (take_more xs i x l ∙ ap (λ z. take i xs ++ z ∷ []) (sym e))) (all_push P (take i xs) x h p)

pub all_next : {X : Type 0} (P : X → Type 0) (xs : List X) (i : ℕ) (x : X) → slice_get xs i ≡ Some x → AllByRecursion P (take i xs) → P x → AllByRecursion P (take (i + 1) xs)
all_next P xs i x here all one = subst (λ k. AllByRecursion P (take k xs)) (sym (add-one i)) (subst (AllByRecursion P) (sym (take_next xs i x here)) (all_push P (take i xs) x all one))

-- ---- what holds of each: of others

pub weaker : {X : Type 0} (P Q : X → Type 0) (xs : List X) → ((x : X) → P x → Q x) → AllByRecursion P xs → AllByRecursion Q xs
weaker P Q [] k h = tt
weaker P Q (x ∷ xs) k h = (k x h.0, weaker P Q xs k h.1)

pub both_all : {X : Type 0} (P Q R : X → Type 0) (xs : List X) → ((x : X) → P x → Q x → R x) → AllByRecursion P xs → AllByRecursion Q xs → AllByRecursion R xs
both_all P Q R [] k h g = tt
both_all P Q R (x ∷ xs) k h g = (k x h.0 g.0, both_all P Q R xs k h.1 g.1)

pub all_of : {X : Type 0} (P : X → Type 0) (xs : List X) → ((x : X) → P x) → AllByRecursion P xs
all_of P [] h = tt
all_of P (x ∷ xs) h = (h x, all_of P xs h)

pub zip_length : {X Y : Type 0} (R : X → Y → Type 0) (xs : List X) (ys : List Y) → AllZip R xs ys → length xs ≡ length ys
zip_length R [] [] h = refl
zip_length R [] (y ∷ ys) h = elim h [ ]
zip_length R (x ∷ xs) [] h = elim h [ ]
zip_length R (x ∷ xs) (y ∷ ys) h = ap suc (zip_length R xs ys h.1)

pub none_passes : {X : Type 0} (p : X → Bool) (xs : List X) → AllByRecursion (λ x. p x ≡ false) xs → find p xs ≡ None
none_passes p [] h = refl
none_passes p (x ∷ xs) h = by (p x) h.0 (none_passes p xs h.1)
  where
    by : (b : Bool) → b ≡ false → find p xs ≡ None → (if b then Some x else find p xs) ≡ None
    by true e r = absurd (true≢false e)
    by false e r = r

-- ---- what holds of each: of one

pub all_found : {X : Type 0} (P : X → Type 0) (p : X → Bool) (xs : List X) (x : X) → AllByRecursion P xs → find p xs ≡ Some x → P x × (p x ≡ true)
all_found P p [] x h e = absurd (cc e)
all_found P p (y ∷ ys) x h e = by (p y) refl e (all_found P p ys x h.1)
  where
    by : (b : Bool) → p y ≡ b → (if b then Some y else find p ys) ≡ Some x → (find p ys ≡ Some x → P x × (p x ≡ true)) → P x × (p x ≡ true)
    by true q e k = let i : y ≡ x = cc e in subst (λ z. P z × (p z ≡ true)) i (h.0, q)
    by false q e k = k e

pub all_get : {X : Type 0} (P : X → Type 0) (xs : List X) (i : ℕ) (d : X) → P d → AllByRecursion P xs → P (slice_index_or xs i d)
all_get P [] i d p h = p
all_get P (x ∷ xs) zero d p h = h.0
all_get P (x ∷ xs) (suc i) d p h = all_get P xs i d p h.1

pub each_at : {X : Type 0} (P : X → Type 0) (xs : List X) (i : ℕ) (d : X) → i < length xs → AllByRecursion P xs → P (slice_index_or xs i d)
each_at P [] i d below all = absurd (omega arith)
each_at P (x ∷ xs) zero d below all = all.0
each_at P (x ∷ xs) (suc i) d below all = each_at P xs i d (omega arith) all.1

pub each_read : {X : Type 0} (P : X → Type 0) (xs : List X) (i : ℕ) (d : X) → AllByRecursion P xs → i < length xs → P (get_or xs i d)
each_read P [] i d h within = absurd (omega arith)
each_read P (x ∷ xs) zero d h within = h.0
each_read P (x ∷ xs) (suc i) d h within = each_read P xs i d h.1 (omega arith)

pub each_here : {A : Type 0} (P : A → Type 0) (xs : List A) (i : ℕ) (x : A) → i < length xs → x ≡ get_or xs i x → AllByRecursion P xs → P x
each_here P [] i x h is all = absurd (omega arith)
each_here P (y ∷ ys) zero x h is all = subst P (sym is) all.0
each_here P (y ∷ ys) (suc i) x h is all = each_here P ys i x (omega (arith, h)) is all.1

pub each_found : {X : Type 0} (P : X → Type 0) (xs : List X) (i : ℕ) (x : X) → slice_get xs i ≡ Some x → AllByRecursion P xs → P x
each_found P [] i x here all = absurd (cc here)
each_found P (y ∷ ys) zero x here all = (let same : y ≡ x = cc here in subst P same all.0)
each_found P (y ∷ ys) (suc i) x here all = each_found P ys i x here all.1

-- ---- one element

pub one_at : {X : Type 0} (xs : List X) (i : ℕ) → i < length xs → (x : X) × (slice_get xs i ≡ Some x)
one_at [] i h = absurd (omega (arith, h))
one_at (x ∷ xs) zero h = (x, refl)
one_at (x ∷ xs) (suc i) h = one_at xs i (omega (arith, h))

pub read_same : {X : Type 0} (xs : List X) (i : ℕ) (d e : X) → i < length xs → get_or xs i d ≡ get_or xs i e
read_same [] i d e h = absurd (omega (arith, h))
read_same (x ∷ xs) zero d e h = refl
read_same (x ∷ xs) (suc i) d e h = read_same xs i d e (omega (arith, h))

pub get_other : {X : Type 0} (xs : List X) (i j : ℕ) (x : X) → j ≢ i → slice_get (slice_set xs j x) i ≡ slice_get xs i
get_other [] i j x h = refl
get_other (y ∷ ys) zero zero x h = absurd (h refl)
get_other (y ∷ ys) zero (suc j) x h = refl
get_other (y ∷ ys) (suc i) zero x h = refl
get_other (y ∷ ys) (suc i) (suc j) x h = get_other ys i j x (λ e. h (ap suc e))

pub get_left : {X : Type 0} (xs ys : List X) (i : ℕ) → i < length xs → slice_get (xs ++ ys) i ≡ slice_get xs i
get_left [] ys i h = absurd (omega (arith, h))
get_left (x ∷ xs) ys zero h = refl
get_left (x ∷ xs) ys (suc i) h = get_left xs ys i (omega (arith, h))

pub get_behind : {X : Type 0} (xs ys : List X) (i n : ℕ) → n ≡ length xs + i → slice_get (xs ++ ys) n ≡ slice_get ys i
get_behind [] ys i n e = ap (slice_get ys) (omega (arith, e))
get_behind (x ∷ xs) ys i zero e = absurd (omega (arith, e))
get_behind (x ∷ xs) ys i (suc n) e = get_behind xs ys i n (omega (arith, e))

pub get_behind_four : {X : Type 0} (a b c d : X) (xs : List X) (i n : ℕ) → n ≡ 4 + i → slice_get (a ∷ b ∷ c ∷ d ∷ xs) n ≡ slice_get xs i
get_behind_four a b c d xs i zero e = absurd (omega (arith, e))
get_behind_four a b c d xs i (suc zero) e = absurd (omega (arith, e))
get_behind_four a b c d xs i (suc (suc zero)) e = absurd (omega (arith, e))
get_behind_four a b c d xs i (suc (suc (suc zero))) e = absurd (omega (arith, e))
get_behind_four a b c d xs i (suc (suc (suc (suc n)))) e = ap (slice_get xs) (omega (arith, e))

pub get_mapped : {A B : Type 0} (f : A → B) (xs : List A) (i : ℕ) (x : A) → slice_get xs i ≡ Some x → slice_get (map f xs) i ≡ Some (f x)
get_mapped f [] i x h = absurd (cc h)
get_mapped f (y ∷ xs) zero x h = ap Some (ap f (cc h))
get_mapped f (y ∷ xs) (suc i) x h = get_mapped f xs i x h

pub set_outside : {X : Type 0} (xs : List X) (i : ℕ) (x : X) → length xs ≤ i → slice_set xs i x ≡ xs
set_outside [] i x l = refl
set_outside (y ∷ ys) zero x l = absurd (omega arith)
set_outside (y ∷ ys) (suc i) x l = ap (λ z. y ∷ z) (set_outside ys i x (omega arith))

-- ---- maps

pub map_twice : {X Y Z : Type 0} (f : Y → Z) (g : X → Y) (xs : List X) → map f (map g xs) ≡ map (λ x. f (g x)) xs
map_twice f g [] = refl
map_twice f g (x ∷ xs) = ap (λ zs. f (g x) ∷ zs) (map_twice f g xs)
