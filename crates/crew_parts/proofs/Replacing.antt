-- What stands in a list of shares after those with some numbers were replaced.
use Rattle.std.proofs.Common.{◌≡◌, ◌≢◌, ℕ, zero, suc, Bool, false, inl, inr, ◌⊎◌, ◌||◌, Option, Some, List, [], ◌∷◌, length, length-set, slice_get, slice_set, refl, sym, ap, subst, ◌∙◌}
use Rattle.std.proofs.lemmas.Bool.Decides.{eqb_tells}
use Rattle.snap_base.proofs.Options.{some_value}
use Rattle.aml_slice.specs.Controls.{Rest}
use Rattle.crew_parts.specs.Acts.{ShareGoes, EachGoes, AreShown}
use Rattle.crew_parts.specs.Shares.{ShareState}
use Rattle.protocol.specs.Events.{Event}
use Rattle.protocol.specs.Fixed.{Fixed}
use Rattle.protocol.specs.Parts.{Machine}
use Rattle.protocol.specs.Words.{is_among}
use Rattle.snap_hand.specs.Shown.{IsPartOf}
use Rattle.turn_table.specs.Places.{Covers, values, before, replaced}

-- y is the one that goes to place i
abbrev pub GoesTo : ℕ → ShareState → List ℕ → List ShareState → Type 0
GoesTo i y [] ys = ⊥
GoesTo i y (j ∷ js) [] = ⊥
GoesTo i y (j ∷ js) (z ∷ zs) = ((j ≡ i) × (z ≡ y)) ⊎ GoesTo i y js zs

-- as many as there are numbers
abbrev pub AsMany : List ℕ → List ShareState → Type 0
AsMany [] ys = Unit {0}
AsMany (j ∷ js) [] = ⊥
AsMany (j ∷ js) (z ∷ zs) = AsMany js zs

set_here : {X : Type 0} (xs : List X) (i : ℕ) (x y : X) → slice_get (slice_set xs i x) i ≡ Some y → x ≡ y
set_here [] i x y e = absurd (cc e)
set_here (z ∷ xs) zero x y e = cc e
set_here (z ∷ xs) (suc i) x y e = set_here xs i x y e

set_else : {X : Type 0} (xs : List X) (j i : ℕ) (x : X) → j ≢ i → slice_get (slice_set xs j x) i ≡ slice_get xs i
set_else [] j i x h = refl
set_else (z ∷ xs) zero zero x h = absurd (h refl)
set_else (z ∷ xs) zero (suc i) x h = refl
set_else (z ∷ xs) (suc j) zero x h = refl
set_else (z ∷ xs) (suc j) (suc i) x h = set_else xs j i x (λ e. h (ap suc e))

pub as_long : (xs : List ShareState) (js : List ℕ) (zs : List ShareState) → length (replaced xs js zs) ≡ length xs
as_long xs [] zs = refl
as_long xs (j ∷ js) [] = refl
as_long xs (j ∷ js) (z ∷ zs) = as_long (slice_set xs j z) js zs ∙ length-set xs j z

other_number : (j i : ℕ) (js : List ℕ) → j ≢ i → is_among i js ≡ false → is_among i (j ∷ js) ≡ false
other_number j i js ne h = elim (eqb_tells j i) [ inl e ↦ absurd (ne e.1) | inr e ↦ ap (λ b. b || is_among i js) e.0 ∙ h ]

-- What stands there is one of the new ones, or what stood there and has none of the numbers.
pub replaced_tells : (xs : List ShareState) (js : List ℕ) (zs : List ShareState) (i : ℕ) (y : ShareState) → AsMany js zs → slice_get (replaced xs js zs) i ≡ Some y
    → GoesTo i y js zs ⊎ ((slice_get xs i ≡ Some y) × (is_among i js ≡ false))
replaced_tells xs [] zs i y many e = inr (e, refl)
replaced_tells xs (j ∷ js) [] i y many e = absurd many
replaced_tells xs (j ∷ js) (z ∷ zs) i y many e = elim (replaced_tells (slice_set xs j z) js zs i y many e) [
  | inl there ↦ inl (inr there)
  | inr stayed ↦ elim (eqb_tells j i) [
    | inl h ↦ inl (inl (h.1, set_here xs i z y (ap (λ k. slice_get (slice_set xs k z) i) (sym h.1) ∙ stayed.0)))
    | inr h ↦ inr (sym (set_else xs j i z h.1) ∙ stayed.0, other_number j i js h.1 stayed.1)
  ]
]

module _ (w : Fixed Rest) (s : Machine Rest) where
  -- the parts that are covered are parts of the state
  pub covered_are_shown : (f : ℕ → Option ShareState) (is : List ℕ) → ((i : ℕ) (x : ShareState) → f i ≡ Some x → IsPartOf w s i x.part) → Covers f is → AreShown w s is (values f is)
  covered_are_shown f [] parts covers = refl
  covered_are_shown f (i ∷ is) parts covers =
      let there = some_value (f i) covers.0 in
      subst (λ o. AreShown w s (i ∷ is) (before o (values f is))) (sym there.1) (parts i there.0 there.1, covered_are_shown f is parts covers.1)

  pub goes_as_many : (done : Bool) (e : Event) (is : List ℕ) (xs ys : List ShareState) → EachGoes w s done e is xs ys → AsMany is ys
  goes_as_many done e [] xs ys goes = tt
  goes_as_many done e (i ∷ is) [] ys goes = absurd goes
  goes_as_many done e (i ∷ is) (x ∷ xs) [] goes = absurd goes
  goes_as_many done e (i ∷ is) (x ∷ xs) (y ∷ ys) goes = goes_as_many done e is xs ys goes.1

  -- who goes to a place came from what stood there
  pub came_from : (done : Bool) (e : Event) (f : ℕ → Option ShareState) (is : List ℕ) (ys : List ShareState) (i : ℕ) (y : ShareState) → Covers f is
      → EachGoes w s done e is (values f is) ys → GoesTo i y is ys → (x : ShareState) × (f i ≡ Some x) × ShareGoes w s done e i x y
  came_from done e f [] ys i y covers goes to = absurd to
  came_from done e f (j ∷ js) [] i y covers goes to = absurd to
  came_from done e f (j ∷ js) (z ∷ zs) i y covers goes to =
      let there = some_value (f j) covers.0 in
      let each : EachGoes w s done e (j ∷ js) (there.0 ∷ values f js) (z ∷ zs) = subst (λ o. EachGoes w s done e (j ∷ js) (before o (values f js)) (z ∷ zs)) there.1 goes in
      elim to [
        | inl here ↦ (
          there.0,
          subst (λ k. f k ≡ Some there.0) here.0 there.1,
          subst (λ k. ShareGoes w s done e k there.0 y) here.0 (subst (λ u. ShareGoes w s done e j there.0 u) here.1 each.0),
        )
        | inr later ↦ came_from done e f js zs i y covers.1 each.1 later
      ]
