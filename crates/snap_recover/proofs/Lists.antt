-- Lists by their elements: what holds of all, the last that has a property, and the first that lacks one.
use Rattle.std.proofs.Common.{◌≡◌, zero, suc, ◌⊎◌, inl, inr, List, [], ◌∷◌, ◌++◌, map, refl, subst, arith}
use Rattle.std.specs.List.{AllByRecursion, AllZip, Contains}
use Rattle.snap_base.proofs.Lists.{all_back}

pub all_of_each : {X : Type 0} (P : X → Type 0) (xs : List X) → ((x : X) → P x) → AllByRecursion P xs
all_of_each P [] f = tt
all_of_each P (x ∷ xs) f = (f x, all_of_each P xs f)

-- the one in the middle
pub all_middle : {X : Type 0} (P : X → Type 0) (front : List X) (x : X) (behind : List X) → AllByRecursion P (front ++ x ∷ behind) → P x
all_middle P front x behind h = (all_back P front (x ∷ behind) h).0

-- ---- the last that has P, and the first that lacks it

pub one_last : {X : Type 0} (P : X → Type 0) (f b g c : List X) (r s : X) → f ++ r ∷ b ≡ g ++ s ∷ c → P r → P s
    → AllByRecursion (λ x. ¬ P x) b → AllByRecursion (λ x. ¬ P x) c → r ≡ s
one_last P [] b [] c r s e p q nb nc = cc
one_last P [] b (y ∷ g) c r s e p q nb nc =
    let tail : b ≡ g ++ s ∷ c = cc in
    absurd (all_middle (λ x. ¬ P x) g s c (subst (λ (z : List _). AllByRecursion (λ x. ¬ P x) z) tail nb) q)
one_last P (x ∷ f) b [] c r s e p q nb nc =
    let tail : c ≡ f ++ r ∷ b = cc in
    absurd (all_middle (λ x. ¬ P x) f r b (subst (λ (z : List _). AllByRecursion (λ x. ¬ P x) z) tail nc) p)
one_last P (x ∷ f) b (y ∷ g) c r s e p q nb nc =
    let tail : f ++ r ∷ b ≡ g ++ s ∷ c = cc in
    one_last P f b g c r s tail p q nb nc

pub one_first : {X : Type 0} (P : X → Type 0) (f b g c : List X) (r s : X) → f ++ r ∷ b ≡ g ++ s ∷ c
    → AllByRecursion P f → AllByRecursion P g → ¬ P r → ¬ P s → (f ≡ g) × (r ≡ s)
one_first P [] b [] c r s e p q nb nc = (refl, cc)
one_first P [] b (y ∷ g) c r s e p q nb nc =
    let same : y ≡ r = cc in
    absurd (nb (subst P same q.0))
one_first P (x ∷ f) b [] c r s e p q nb nc =
    let same : x ≡ s = cc in
    absurd (nc (subst P same p.0))
one_first P (x ∷ f) b (y ∷ g) c r s e p q nb nc =
    let tail : f ++ r ∷ b ≡ g ++ s ∷ c = cc in
    let rest = one_first P f b g c r s tail p.1 q.1 nb nc in
    let f_is : f ≡ g = rest.0 in
    (cc, rest.1)

-- ---- elements

pub contains_cases : {X : Type 0} (x y : X) (xs : List X) → Contains (x ∷ xs) y → (x ≡ y) ⊎ Contains xs y
contains_cases x y xs (zero, h, e) = inl e
contains_cases x y xs (suc k, h, e) = inr (k, omega arith, e)

pub contains_here : {X : Type 0} (x : X) (xs : List X) → Contains (x ∷ xs) x
contains_here x xs = (zero, omega arith, refl)

pub contains_there : {X : Type 0} (x y : X) (xs : List X) → Contains xs y → Contains (x ∷ xs) y
contains_there x y xs (k, h, e) = (suc k, omega arith, e)

pub contains_none : {X : Type 0} (y : X) → ¬ Contains [] y
contains_none y (k, h, e) = absurd (omega arith)

pub contains_left : {X : Type 0} (xs ys : List X) (y : X) → Contains xs y → Contains (xs ++ ys) y
contains_left [] ys y h = absurd (contains_none y h)
contains_left (x ∷ xs) ys y h = elim (contains_cases x y xs h) [ inl e ↦ subst (λ (z : _). Contains (x ∷ (xs ++ ys)) z) e (contains_here x (xs ++ ys)) | inr g ↦ contains_there x y (xs ++ ys) (contains_left xs ys y g) ]

pub contains_right : {X : Type 0} (xs ys : List X) (y : X) → Contains ys y → Contains (xs ++ ys) y
contains_right [] ys y h = h
contains_right (x ∷ xs) ys y h = contains_there x y (xs ++ ys) (contains_right xs ys y h)

pub contains_append : {X : Type 0} (xs ys : List X) (y : X) → Contains (xs ++ ys) y → Contains xs y ⊎ Contains ys y
contains_append [] ys y h = inr h
contains_append (x ∷ xs) ys y h = elim (contains_cases x y (xs ++ ys) h) [
  | inl e ↦ inl (subst (λ (z : _). Contains (x ∷ xs) z) e (contains_here x xs))
  | inr g ↦ elim (contains_append xs ys y g) [ inl i ↦ inl (contains_there x y xs i) | inr i ↦ inr i ]
]

pub all_contains : {X : Type 0} (P : X → Type 0) (xs : List X) (y : X) → AllByRecursion P xs → Contains xs y → P y
all_contains P [] y a h = absurd (contains_none y h)
all_contains P (x ∷ xs) y a h = elim (contains_cases x y xs h) [ inl e ↦ subst P e a.0 | inr g ↦ all_contains P xs y a.1 g ]

pub contains_map : {X Y : Type 0} (f : X → Y) (xs : List X) (x : X) → Contains xs x → Contains (map f xs) (f x)
contains_map f [] x h = absurd (contains_none x h)
contains_map f (y ∷ xs) x h = elim (contains_cases y x xs h) [
  | inl e ↦ subst (λ (z : _). Contains (f y ∷ map f xs) (f z)) e (contains_here (f y) (map f xs))
  | inr g ↦ contains_there (f y) (f x) (map f xs) (contains_map f xs x g)
]

-- an element of a map comes from one of the list
pub contains_unmap : {X Y : Type 0} (f : X → Y) (xs : List X) (y : Y) → Contains (map f xs) y → (x : X) × Contains xs x × (f x ≡ y)
contains_unmap f [] y h = absurd (contains_none y h)
contains_unmap f (x ∷ xs) y h = elim (contains_cases (f x) y (map f xs) h) [
  | inl e ↦ (x, contains_here x xs, e)
  | inr g ↦ let r = contains_unmap f xs y g in (r.0, contains_there x r.0 xs r.1, r.2)
]

pub contains_middle : {X : Type 0} (front : List X) (x : X) (behind : List X) → Contains (front ++ x ∷ behind) x
contains_middle front x behind = contains_right front (x ∷ behind) x (contains_here x behind)

-- ---- pairs of lists

pub zip_one : {X Y : Type 0} (R : X → Y → Type 0) (xs : List X) (ys zs : List Y) → ((x : X) (y z : Y) → R x y → R x z → y ≡ z) → AllZip R xs ys → AllZip R xs zs → ys ≡ zs
zip_one R [] [] [] f h g = refl
zip_one R [] (y ∷ ys) zs f h g = elim h [ ]
zip_one R [] [] (z ∷ zs) f h g = elim g [ ]
zip_one R (x ∷ xs) [] zs f h g = elim h [ ]
zip_one R (x ∷ xs) (y ∷ ys) [] f h g = elim g [ ]
zip_one R (x ∷ xs) (y ∷ ys) (z ∷ zs) f h g =
    let first : y ≡ z = f x y z h.0 g.0 in
    let rest : ys ≡ zs = zip_one R xs ys zs f h.1 g.1 in
    cc
