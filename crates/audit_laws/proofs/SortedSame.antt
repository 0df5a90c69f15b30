-- Two lists that rise by place and have the same members are one list.
use Rattle.std.specs.Prelude.{◌≡◌, refl, ℕ, ◌==◌, nat_lt, Bool, true, false, ◌&&◌, ◌||◌, if◌then◌else◌, ◌⊎◌, List, [], ◌∷◌}
use Rattle.std.specs.List.{AllByRecursion}
use Rattle.std.proofs.Common.{arith, sym, ap, subst, inl, inr, ◌∙◌}
use Rattle.std.proofs.lemmas.Bool.{or_cases, and_parts, ltb-true, eqb-true}
use Rattle.snap_base.specs.declared.verdicts.Place.{Place}
use Rattle.protocol.specs.History.{Done}
use Rattle.protocol.specs.Chains.{is_place_below, put_by_place, by_place, IsBelowAll, PlacesRise}

abbrev pub IsIn : Done → List Done → Type 0
IsIn d [] = ⊥
IsIn d (x ∷ xs) = (d ≡ x) ⊎ IsIn d xs

pub all_in : (P : Done → Type 0) (d : Done) (ds : List Done) → AllByRecursion P ds → IsIn d ds → P d
all_in P d [] h i = absurd i
all_in P d (x ∷ ds) h (inl e) = subst P (sym e) h.0
all_in P d (x ∷ ds) h (inr i) = all_in P d ds h.1 i

below_in : (p : Place) (d : Done) (xs : List Done) → IsBelowAll p xs → IsIn d xs → is_place_below p d.place ≡ true
below_in p d [] h i = absurd i
below_in p d (x ∷ xs) h (inl e) = subst (λ (z : Done). is_place_below p z.place ≡ true) (sym e) h.0
below_in p d (x ∷ xs) h (inr i) = below_in p d xs h.1 i

-- one number, then a further test, both ways round
both_ways : (a b : ℕ) (x y : Bool) → (x ≡ true → y ≡ true → ⊥) → (nat_lt a b || ((a == b) && x)) ≡ true → (nat_lt b a || ((b == a) && y)) ≡ true → ⊥
both_ways a b x y k h g = elim (or_cases (nat_lt a b) ((a == b) && x) h) [
  | inl p ↦ elim (or_cases (nat_lt b a) ((b == a) && y) g) [
    | inl q ↦ absurd (omega (arith, ltb-true a b p, ltb-true b a q))
    | inr q ↦ absurd (omega (arith, ltb-true a b p, eqb-true b a (and_parts (b == a) y q).0))
  ]
  | inr p ↦ elim (or_cases (nat_lt b a) ((b == a) && y) g) [
    | inl q ↦ absurd (omega (arith, ltb-true b a q, eqb-true a b (and_parts (a == b) x p).0))
    | inr q ↦ k (and_parts (a == b) x p).1 (and_parts (b == a) y q).1
  ]
]

one_way : (a b : ℕ) → nat_lt a b ≡ true → nat_lt b a ≡ true → ⊥
one_way a b h g = absurd (omega (arith, ltb-true a b h, ltb-true b a g))

pub asym : (p q : Place) → is_place_below p q ≡ true → is_place_below q p ≡ true → ⊥
asym p q = both_ways p.batch.0 q.batch.0 _ _ (both_ways p.side q.side _ _ (one_way p.order q.order))

pub same_sorted : (xs ys : List Done) → PlacesRise xs → PlacesRise ys → ((d : Done) → IsIn d xs → IsIn d ys) → ((d : Done) → IsIn d ys → IsIn d xs) → xs ≡ ys
same_sorted [] [] h g f b = refl
same_sorted [] (y ∷ ys) h g f b = absurd (b y (inl refl))
same_sorted (x ∷ xs) [] h g f b = absurd (f x (inl refl))
same_sorted (x ∷ xs) (y ∷ ys) h g f b =
    let e : x ≡ y = first in
    ap (λ (z : Done). z ∷ xs) e ∙ ap (λ (zs : List Done). y ∷ zs) (same_sorted xs ys h.1 g.1 (forth e) (back e))
  where
    first : x ≡ y
    first = elim (f x (inl refl)) [
      | inl e ↦ e
      | inr i ↦ elim (b y (inl refl)) [
        | inl e ↦ sym e
        | inr j ↦ absurd (asym x.place y.place (below_in x.place y xs h.0 j) (below_in y.place x ys g.0 i))
      ]
    ]

    forth : x ≡ y → (d : Done) → IsIn d xs → IsIn d ys
    forth e d i = elim (f d (inr i)) [
      | inl q ↦ absurd (twice d (below_in x.place d xs h.0 i) (q ∙ sym e))
      | inr j ↦ j
    ]
      where
        twice : (d : Done) → is_place_below x.place d.place ≡ true → d ≡ x → ⊥
        twice d p q = let r = subst (λ (z : Done). is_place_below x.place z.place ≡ true) q p in asym x.place x.place r r

    back : x ≡ y → (d : Done) → IsIn d ys → IsIn d xs
    back e d i = elim (b d (inr i)) [
      | inl q ↦ absurd (twice d (below_in y.place d ys g.0 i) (q ∙ e))
      | inr j ↦ j
    ]
      where
        twice : (d : Done) → is_place_below y.place d.place ≡ true → d ≡ y → ⊥
        twice d p q = let r = subst (λ (z : Done). is_place_below y.place z.place ≡ true) q p in asym y.place y.place r r

-- ---- sorting

in_put : (d x : Done) (xs : List Done) → IsIn d (x ∷ xs) → IsIn d (put_by_place x xs)
in_put d x [] i = i
in_put d x (y ∷ ys) i = by (is_place_below x.place y.place) (in_put d x ys)
  where
    by : (c : Bool) → (IsIn d (x ∷ ys) → IsIn d (put_by_place x ys)) → IsIn d (if c then x ∷ y ∷ ys else y ∷ put_by_place x ys)
    by true k = i
    by false k = elim i [
      | inl e ↦ inr (k (inl e))
      | inr j ↦ elim j [ inl e ↦ inl e | inr q ↦ inr (k (inr q)) ]
    ]

from_put : (d x : Done) (xs : List Done) → IsIn d (put_by_place x xs) → IsIn d (x ∷ xs)
from_put d x [] i = i
from_put d x (y ∷ ys) i = by (is_place_below x.place y.place) i (from_put d x ys)
  where
    by : (c : Bool) → IsIn d (if c then x ∷ y ∷ ys else y ∷ put_by_place x ys) → (IsIn d (put_by_place x ys) → IsIn d (x ∷ ys)) → IsIn d (x ∷ y ∷ ys)
    by true i k = i
    by false i k = elim i [
      | inl e ↦ inr (inl e)
      | inr j ↦ elim (k j) [ inl e ↦ inl e | inr q ↦ inr (inr q) ]
    ]

pub in_sorted : (d : Done) (ds : List Done) → IsIn d ds → IsIn d (by_place ds)
in_sorted d [] i = i
in_sorted d (x ∷ ds) (inl e) = in_put d x (by_place ds) (inl e)
in_sorted d (x ∷ ds) (inr i) = in_put d x (by_place ds) (inr (in_sorted d ds i))

pub from_sorted : (d : Done) (ds : List Done) → IsIn d (by_place ds) → IsIn d ds
from_sorted d [] i = i
from_sorted d (x ∷ ds) i = elim (from_put d x (by_place ds) i) [ inl e ↦ inl e | inr j ↦ inr (from_sorted d ds j) ]
