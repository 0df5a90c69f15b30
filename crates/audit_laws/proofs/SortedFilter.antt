-- Sorting by place commutes with a test, where the places rise.
use Rattle.std.specs.Prelude.{◌≡◌, refl, Bool, true, false, if◌then◌else◌, List, [], ◌∷◌, filter}
use Rattle.std.proofs.Common.{sym, ap, ◌∙◌}
use Rattle.snap_base.specs.declared.verdicts.Place.{Place}
use Rattle.protocol.specs.History.{Done}
use Rattle.protocol.specs.Chains.{is_place_below, put_by_place, by_place, IsBelowAll, PlacesRise}

-- ---- one less

below_without : (p : Place) (d : Done) (xs : List Done) → IsBelowAll p (put_by_place d xs) → IsBelowAll p xs
below_without p d [] h = tt
below_without p d (x ∷ xs) h = by (is_place_below d.place x.place) h (below_without p d xs)
  where
    by : (b : Bool) → IsBelowAll p (if b then d ∷ x ∷ xs else x ∷ put_by_place d xs) → (IsBelowAll p (put_by_place d xs) → IsBelowAll p xs) → IsBelowAll p (x ∷ xs)
    by true h k = h.1
    by false h k = (h.0, k h.1)

rises_without : (d : Done) (xs : List Done) → PlacesRise (put_by_place d xs) → PlacesRise xs
rises_without d [] h = tt
rises_without d (x ∷ xs) h = by (is_place_below d.place x.place) h (rises_without d xs)
  where
    by : (b : Bool) → PlacesRise (if b then d ∷ x ∷ xs else x ∷ put_by_place d xs) → (PlacesRise (put_by_place d xs) → PlacesRise xs) → PlacesRise (x ∷ xs)
    by true h k = h.1
    by false h k = (below_without x.place d xs h.0, k h.1)

-- ---- one more

below_filter : (p : Place) (q : Done → Bool) (xs : List Done) → IsBelowAll p xs → IsBelowAll p (filter q xs)
below_filter p q [] h = tt
below_filter p q (x ∷ xs) h = by (q x) (below_filter p q xs h.1)
  where
    by : (b : Bool) → IsBelowAll p (filter q xs) → IsBelowAll p (if b then x ∷ filter q xs else filter q xs)
    by true k = (h.0, k)
    by false k = k

put_first : (d : Done) (xs : List Done) → IsBelowAll d.place xs → put_by_place d xs ≡ d ∷ xs
put_first d [] h = refl
put_first d (x ∷ xs) h = ap (λ (b : Bool). if b then d ∷ x ∷ xs else x ∷ put_by_place d xs) h.0

put_out : (q : Done → Bool) (d : Done) (xs : List Done) → q d ≡ false → filter q (put_by_place d xs) ≡ filter q xs
put_out q d [] e = ap (λ (b : Bool). if b then d ∷ [] else []) e
put_out q d (x ∷ xs) e = by (is_place_below d.place x.place) (put_out q d xs e)
  where
    by : (b : Bool) → filter q (put_by_place d xs) ≡ filter q xs → filter q (if b then d ∷ x ∷ xs else x ∷ put_by_place d xs) ≡ filter q (x ∷ xs)
    by true k = ap (λ (b : Bool). if b then d ∷ filter q (x ∷ xs) else filter q (x ∷ xs)) e
    by false k = ap (λ (zs : List Done). if q x then x ∷ zs else zs) k

put_in : (q : Done → Bool) (d : Done) (xs : List Done) → q d ≡ true → PlacesRise (put_by_place d xs) → filter q (put_by_place d xs) ≡ put_by_place d (filter q xs)
put_in q d [] e h = ap (λ (b : Bool). if b then d ∷ [] else []) e
put_in q d (x ∷ xs) e h = by (is_place_below d.place x.place) refl h (put_in q d xs e)
  where
    out : (c : Bool) → is_place_below d.place x.place ≡ false → (if c then x ∷ put_by_place d (filter q xs) else put_by_place d (filter q xs)) ≡ put_by_place d (if c then x ∷ filter q xs else filter q xs)
    out true i = sym (ap (λ (z : Bool). if z then d ∷ x ∷ filter q xs else x ∷ put_by_place d (filter q xs)) i)
    out false i = refl

    by : (b : Bool) → is_place_below d.place x.place ≡ b → PlacesRise (if b then d ∷ x ∷ xs else x ∷ put_by_place d xs) → (PlacesRise (put_by_place d xs) → filter q (put_by_place d xs) ≡ put_by_place d (filter q xs))
        → filter q (if b then d ∷ x ∷ xs else x ∷ put_by_place d xs) ≡ put_by_place d (filter q (x ∷ xs))
    by true i h k = ap (λ (b : Bool). if b then d ∷ filter q (x ∷ xs) else filter q (x ∷ xs)) e ∙ sym (put_first d (filter q (x ∷ xs)) (below_filter d.place q (x ∷ xs) h.0))
    by false i h k = ap (λ (zs : List Done). if q x then x ∷ zs else zs) (k h.1) ∙ out (q x) i

-- ---- all of them

pub filter_by_place : (q : Done → Bool) (ds : List Done) → PlacesRise (by_place ds) → filter q (by_place ds) ≡ by_place (filter q ds)
filter_by_place q [] h = refl
filter_by_place q (d ∷ ds) h = by (q d) refl (filter_by_place q ds (rises_without d (by_place ds) h))
  where
    by : (b : Bool) → q d ≡ b → filter q (by_place ds) ≡ by_place (filter q ds) → filter q (put_by_place d (by_place ds)) ≡ by_place (if b then d ∷ filter q ds else filter q ds)
    by true e k = put_in q d (by_place ds) e h ∙ ap (put_by_place d) k
    by false e k = put_out q d (by_place ds) e ∙ k
