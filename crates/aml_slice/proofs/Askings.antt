-- What stands on an actor, and what is left of it, element by element.
use Rattle.std.proofs.Common.{◌≡◌, ℕ, zero, suc, ◌+◌, ◌<◌, ◌≤◌, ◌⊎◌, inl, inr, ◌==◌, ◌||◌, Bool, true, false, ℤ, List, [], ◌∷◌, ◌++◌, length, reverse, get_or, drop, refl, sym, ap, ◌∙◌, subst, arith}
use Rattle.std.specs.List.{list_any, Contains}
use Rattle.std.proofs.lemmas.Bool.Decides.{nat_tests}
use Rattle.std.proofs.lemmas.Bool.{eq-eqb}
use Rattle.std.proofs.lemmas.List.{drop_more, reverse-append}
use Rattle.snap_base.specs.declared.ids.ActorId.{ActorId}
use Rattle.snap_base.proofs.Booleans.{or_true}
use Rattle.aml_resume.specs.declared.places.Spot.{Spot}
use Rattle.aml_slice.specs.declared.saved.SavedFrame.{SavedFrame}
use Rattle.aml_slice.specs.Controls.{IsCallLeft, StandsOn}
use Rattle.aml_slice.specs.Views.{before_last, frames_in, WaitsOn}

left_from : (us : List (ActorId × ℕ)) (i a : ℕ) → IsCallLeft (drop i us) a → IsCallLeft us a
left_from us zero a h = h
left_from [] (suc i) a h = h
left_from (u ∷ us) (suc i) a h = inr (left_from us i a h)

pub left_here : (us : List (ActorId × ℕ)) (i : ℕ) (u : ActorId × ℕ) (a : ℕ) → i < length us → u ≡ get_or us i u → u.0.0 ≡ a → 1 ≤ u.1 → IsCallLeft us a
left_here us i u a within is same some =
    let P : List (ActorId × ℕ) → Type 0 = λ vs. IsCallLeft vs a in
    left_from us i a (subst P (sym (drop_more us i u within ∙ ap (λ v. v ∷ drop (i + 1) us) (sym is))) (inl (same, some)))

waits_from : (fs : List SavedFrame) (i a : ℕ) → WaitsOn (drop i fs) a → WaitsOn fs a
waits_from fs zero a h = h
waits_from [] (suc i) a h = h
waits_from (f ∷ fs) (suc i) a h = inr (waits_from fs i a h)

pub waits_here : (fs : List SavedFrame) (i : ℕ) (f : SavedFrame) (a : ℕ) → i < length fs → f ≡ get_or fs i f → f.actor ≡ a → WaitsOn fs a
waits_here fs i f a within is same =
    let P : List SavedFrame → Type 0 = λ gs. WaitsOn gs a in
    waits_from fs i a (subst P (sym (drop_more fs i f within ∙ ap (λ g. g ∷ drop (i + 1) fs) (sym is))) (inl same))

-- ---- the other way round

waits_front : (fs gs : List SavedFrame) (a : ℕ) → WaitsOn fs a → WaitsOn (fs ++ gs) a
waits_front [] gs a h = absurd h
waits_front (f ∷ fs) gs a (inl here) = inl here
waits_front (f ∷ fs) gs a (inr more) = inr (waits_front fs gs a more)

waits_back : (fs gs : List SavedFrame) (a : ℕ) → WaitsOn gs a → WaitsOn (fs ++ gs) a
waits_back [] gs a h = h
waits_back (f ∷ fs) gs a h = inr (waits_back fs gs a h)

waits_either : (fs gs : List SavedFrame) (a : ℕ) → WaitsOn (fs ++ gs) a → WaitsOn fs a ⊎ WaitsOn gs a
waits_either [] gs a h = inr h
waits_either (f ∷ fs) gs a (inl here) = inl (inl here)
waits_either (f ∷ fs) gs a (inr more) = elim (waits_either fs gs a more) [ inl x ↦ inl (inr x) | inr y ↦ inr y ]

turned : (fs : List SavedFrame) (a : ℕ) → WaitsOn fs a → WaitsOn (reverse fs) a
turned [] a h = absurd h
turned (f ∷ fs) a h =
    let P : List SavedFrame → Type 0 = λ gs. WaitsOn gs a in
    subst P (sym (reverse-append (f ∷ []) fs)) (elim h [ inl here ↦ waits_back (reverse fs) (f ∷ []) a (inl here) | inr more ↦ waits_front (reverse fs) (f ∷ []) a (turned fs a more) ])

turned_back : (fs : List SavedFrame) (a : ℕ) → WaitsOn (reverse fs) a → WaitsOn fs a
turned_back [] a h = h
turned_back (f ∷ fs) a h =
    let P : List SavedFrame → Type 0 = λ gs. WaitsOn gs a in
    elim (waits_either (reverse fs) (f ∷ []) a (subst P (reverse-append (f ∷ []) fs) h)) [ inl front ↦ inr (turned_back fs a front) | inr (inl here) ↦ inl here | inr (inr none) ↦ absurd none ]

-- ---- a frame that waits, and where it stands

waits_in : (fs : List SavedFrame) (vs : List ℤ) (qs : List Spot) (a : ℕ) → WaitsOn fs a → StandsOn (frames_in fs vs qs) a
waits_in [] vs qs a h = h
waits_in (f ∷ fs) vs qs a (inl here) = inl here
waits_in (f ∷ fs) vs qs a (inr more) = inr (waits_in fs (before_last f.variables vs) (before_last f.levels qs) a more)

in_waits : (fs : List SavedFrame) (vs : List ℤ) (qs : List Spot) (a : ℕ) → StandsOn (frames_in fs vs qs) a → WaitsOn fs a
in_waits [] vs qs a h = h
in_waits (f ∷ fs) vs qs a (inl here) = inl here
in_waits (f ∷ fs) vs qs a (inr more) = inr (in_waits fs (before_last f.variables vs) (before_last f.levels qs) a more)

pub waits_stand : (fs : List SavedFrame) (vs : List ℤ) (qs : List Spot) (a : ℕ) → WaitsOn fs a → StandsOn (frames_in (reverse fs) vs qs) a
waits_stand fs vs qs a h = waits_in (reverse fs) vs qs a (turned fs a h)

pub stand_waits : (fs : List SavedFrame) (vs : List ℤ) (qs : List Spot) (a : ℕ) → StandsOn (frames_in (reverse fs) vs qs) a → WaitsOn fs a
stand_waits fs vs qs a h = turned_back fs a (in_waits (reverse fs) vs qs a h)

-- ---- actors that were called

any_by : (a b : ℕ) (bs : List ℕ) (t : Bool) → (b == a) ≡ t → ((let o : Bool = t || list_any (λ c. c == a) bs in o ≡ true) → (b ≡ a) ⊎ (list_any (λ c. c == a) bs ≡ true))
any_by a b bs true e h = let same : b ≡ a = grind (arith, nat_tests) in inl same
any_by a b bs false e h = inr h

pub any_contains : (a : ℕ) (bs : List ℕ) → list_any (λ c. c == a) bs ≡ true → Contains bs a
any_contains a [] h = absurd cc
any_contains a (b ∷ bs) h =
    elim (any_by a b bs (b == a) refl h) [
      | inl same ↦ (0, omega arith, same)
      | inr more ↦ (let k = any_contains a bs more in (k.0 + 1, omega (arith, k.1), (let e : k.0 + 1 ≡ suc k.0 = omega arith in rw e k.2)))
    ]

any_at : (a : ℕ) (bs : List ℕ) (k : ℕ) → k < length bs → get_or bs k a ≡ a → list_any (λ c. c == a) bs ≡ true
any_at a [] k within is = absurd (omega arith)
any_at a (b ∷ bs) zero within is = ap (λ (t : Bool). t || list_any (λ c. c == a) bs) (eq-eqb b a is)
any_at a (b ∷ bs) (suc k) within is = ap (λ (t : Bool). (b == a) || t) (any_at a bs k (omega arith) is) ∙ or_true (b == a)

pub contains_any : (a : ℕ) (bs : List ℕ) → Contains bs a → list_any (λ c. c == a) bs ≡ true
contains_any a bs h = any_at a bs h.0 h.1 h.2
