-- Sorting by place leaves what rises.
use Rattle.std.specs.Prelude.{◌≡◌, refl, ℕ, ◌==◌, nat_lt, Bool, true, false, ◌&&◌, ◌||◌, if◌then◌else◌, ◌⊎◌, List, [], ◌∷◌, filter}
use Rattle.std.specs.List.{AllByRecursion}
use Rattle.std.proofs.Common.{arith, sym, ap, subst, inl, inr, ◌∙◌}
use Rattle.std.proofs.lemmas.Bool.{true≢false, or_cases, and_parts, and_from, or_left, or_right, ltb-true, lt-ltb, eqb-true, eq-eqb}
use Rattle.snap_base.specs.declared.verdicts.Place.{Place}
use Rattle.protocol.specs.History.{Done}
use Rattle.protocol.specs.Chains.{is_place_below, put_by_place, by_place, IsBelowAll, PlacesRise}
use Rattle.protocol_laws.specs.Linked.{PlacesDiffer}

-- ---- what a test leaves of the sorted list

filter_out : (p : Done → Bool) (d : Done) (xs : List Done) → p d ≡ false → filter p (put_by_place d xs) ≡ filter p xs
filter_out p d [] e = rw e refl
filter_out p d (x ∷ xs) e = by (is_place_below d.place x.place) (filter_out p d xs e)
  where
    more : (b : Bool) → filter p (put_by_place d xs) ≡ filter p xs → (if b then x ∷ filter p (put_by_place d xs) else filter p (put_by_place d xs)) ≡ (if b then x ∷ filter p xs else filter p xs)
    more true h = ap (λ ys. x ∷ ys) h
    more false h = h

    by : (b : Bool) → filter p (put_by_place d xs) ≡ filter p xs → filter p (if b then d ∷ x ∷ xs else x ∷ put_by_place d xs) ≡ filter p (x ∷ xs)
    by true h = rw e refl
    by false h = more (p x) h

filter_in : (p : Done → Bool) (d : Done) (xs : List Done) → p d ≡ true → IsBelowAll d.place (filter p xs) → filter p (put_by_place d xs) ≡ d ∷ filter p xs
filter_in p d [] e l = rw e refl
filter_in p d (x ∷ xs) e l = by (is_place_below d.place x.place) refl (p x) refl l (filter_in p d xs e)
  where
    by : (b : Bool) → is_place_below d.place x.place ≡ b → (c : Bool) → p x ≡ c → IsBelowAll d.place (if c then x ∷ filter p xs else filter p xs)
        → (IsBelowAll d.place (filter p xs) → filter p (put_by_place d xs) ≡ d ∷ filter p xs)
        → filter p (if b then d ∷ x ∷ xs else x ∷ put_by_place d xs) ≡ d ∷ (if c then x ∷ filter p xs else filter p xs)
    by true f c g l k = rw (e, g) refl
    by false f true g l k = absurd (true≢false (sym l.0 ∙ f))
    by false f false g l k = rw g (k l)

pub filter_sorted : (p : Done → Bool) (ds : List Done) → PlacesRise (filter p ds) → filter p (by_place ds) ≡ filter p ds
filter_sorted p [] r = refl
filter_sorted p (d ∷ ds) r = by (p d) refl r (filter_sorted p ds)
  where
    by : (b : Bool) → p d ≡ b → PlacesRise (if b then d ∷ filter p ds else filter p ds) → (PlacesRise (filter p ds) → filter p (by_place ds) ≡ filter p ds)
        → filter p (put_by_place d (by_place ds)) ≡ (if b then d ∷ filter p ds else filter p ds)
    by true e r k = let q = k r.1 in filter_in p d (by_place ds) e (subst (λ xs. IsBelowAll d.place xs) (sym q) r.0) ∙ ap (λ xs. d ∷ xs) q
    by false e r k = filter_out p d (by_place ds) e ∙ k r

-- ---- what holds of each

pub all_put : (P : Done → Type 0) (d : Done) (xs : List Done) → P d → AllByRecursion P xs → AllByRecursion P (put_by_place d xs)
all_put P d [] h k = (h, tt)
all_put P d (x ∷ xs) h k = by (is_place_below d.place x.place) (all_put P d xs h k.1)
  where
    by : (b : Bool) → AllByRecursion P (put_by_place d xs) → AllByRecursion P (if b then d ∷ x ∷ xs else x ∷ put_by_place d xs)
    by true g = (h, k)
    by false g = (k.0, g)

pub all_sorted : (P : Done → Type 0) (ds : List Done) → AllByRecursion P ds → AllByRecursion P (by_place ds)
all_sorted P [] h = tt
all_sorted P (d ∷ ds) h = all_put P d (by_place ds) h.0 (all_sorted P ds h.1)

-- ---- the order of places is transitive

-- one number, then a further test
chained : (a b c : ℕ) (x y z : Bool) → (x ≡ true → y ≡ true → z ≡ true) → (nat_lt a b || ((a == b) && x)) ≡ true → (nat_lt b c || ((b == c) && y)) ≡ true → (nat_lt a c || ((a == c) && z)) ≡ true
chained a b c x y z k h g = elim (or_cases (nat_lt a b) ((a == b) && x) h) [
  | inl p ↦ elim (or_cases (nat_lt b c) ((b == c) && y) g) [
    | inl q ↦ or_left (nat_lt a c) ((a == c) && z) (lt-ltb a c (omega (arith, ltb-true a b p, ltb-true b c q)))
    | inr q ↦ or_left (nat_lt a c) ((a == c) && z) (lt-ltb a c (omega (arith, ltb-true a b p, eqb-true b c (and_parts (b == c) y q).0)))
  ]
  | inr p ↦ elim (or_cases (nat_lt b c) ((b == c) && y) g) [
    | inl q ↦ or_left (nat_lt a c) ((a == c) && z) (lt-ltb a c (omega (arith, eqb-true a b (and_parts (a == b) x p).0, ltb-true b c q)))
    | inr q ↦
        let i = and_parts (a == b) x p in
        let j = and_parts (b == c) y q in
        or_right (nat_lt a c) ((a == c) && z) (and_from (a == c) z (eq-eqb a c (omega (arith, eqb-true a b i.0, eqb-true b c j.0))) (k i.1 j.1))
  ]
]

pub before_trans : (p q r : Place) → is_place_below p q ≡ true → is_place_below q r ≡ true → is_place_below p r ≡ true
before_trans p q r =
    chained p.batch.0 q.batch.0 r.batch.0 _ _ _ (chained p.side q.side r.side _ _ _ (λ h g. lt-ltb p.order r.order (omega (arith, ltb-true p.order q.order h, ltb-true q.order r.order g))))

below_more : (p q : Place) (xs : List Done) → is_place_below p q ≡ true → IsBelowAll q xs → IsBelowAll p xs
below_more p q [] h k = tt
below_more p q (x ∷ xs) h k = (before_trans p q x.place h k.0, below_more p q xs h k.1)

below_put : (p : Place) (d : Done) (xs : List Done) → is_place_below p d.place ≡ true → IsBelowAll p xs → IsBelowAll p (put_by_place d xs)
below_put p d [] h k = (h, tt)
below_put p d (x ∷ xs) h k = by (is_place_below d.place x.place) (below_put p d xs h k.1)
  where
    by : (b : Bool) → IsBelowAll p (put_by_place d xs) → IsBelowAll p (if b then d ∷ x ∷ xs else x ∷ put_by_place d xs)
    by true g = (h, k)
    by false g = (k.0, g)

-- ---- the sorted list rises

put_rises : (d : Done) (xs : List Done) → AllByRecursion (λ e. (is_place_below d.place e.place ≡ true) ⊎ (is_place_below e.place d.place ≡ true)) xs → PlacesRise xs → PlacesRise (put_by_place d xs)
put_rises d [] h r = (tt, tt)
put_rises d (x ∷ xs) h r = by (is_place_below d.place x.place) refl (put_rises d xs h.1 r.1)
  where
    by : (b : Bool) → is_place_below d.place x.place ≡ b → PlacesRise (put_by_place d xs) → PlacesRise (if b then d ∷ x ∷ xs else x ∷ put_by_place d xs)
    by true e g = ((e, below_more d.place x.place xs e r.0), r)
    by false e g = elim h.0 [ inl p ↦ absurd (true≢false (sym p ∙ e)) | inr p ↦ (below_put x.place d xs p r.0, g) ]

pub rises_sorted : (ds : List Done) → PlacesDiffer ds → PlacesRise (by_place ds)
rises_sorted [] h = tt
rises_sorted (d ∷ ds) h = put_rises d (by_place ds) (all_sorted (λ e. (is_place_below d.place e.place ≡ true) ⊎ (is_place_below e.place d.place ≡ true)) ds h.0) (rises_sorted ds h.1)
