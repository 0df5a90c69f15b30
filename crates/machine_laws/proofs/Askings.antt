-- What the machine asks of a control, as a test, is what is asked of controls.
use Rattle.std.proofs.Common.{◌≡◌, ℕ, ◌≤◌, inl, inr, nat_le, ◌==◌, ◌&&◌, true, Option, Some, None, List, [], ◌∷◌, Contains, get_or, subst, arith}
use Rattle.std.proofs.lemmas.Bool.{eqb-true, eq-eqb, or_cases, or_left, or_right, and_parts, and_from}
use Rattle.std.proofs.lemmas.Bool.Decides.{nat_tests}
use Rattle.std.proofs.lemmas.List.Folds.{Any-from_list_any, list_any_at}
use Rattle.snap_base.specs.declared.ids.ActorId.{ActorId}
use Rattle.aml_slice.specs.Controls.{Frame, Rest, StandsOn, IsCallLeft, HasLeft, RestsOn}
use Rattle.protocol.specs.Words.{is_among}
use Rattle.machine_laws.specs.MethodCode.{is_stood_on, is_left, rests_on}

-- ---- frames

stood_told : (frames : List Frame) (a : ℕ) → is_stood_on frames a ≡ true → StandsOn frames a
stood_told [] a h = absurd cc
stood_told (f ∷ fs) a h = elim (or_cases (f.actor == a) (is_stood_on fs a) h) [ inl here ↦ inl (eqb-true f.actor a here) | inr more ↦ inr (stood_told fs a more) ]

stood_tells : (frames : List Frame) (a : ℕ) → StandsOn frames a → is_stood_on frames a ≡ true
stood_tells [] a h = absurd h
stood_tells (f ∷ fs) a (inl here) = or_left (f.actor == a) (is_stood_on fs a) (eq-eqb f.actor a here)
stood_tells (f ∷ fs) a (inr more) = or_right (f.actor == a) (is_stood_on fs a) (stood_tells fs a more)

-- ---- declared calls

some_told : (u : ActorId × ℕ) (a : ℕ) → ((u.0.0 == a) && nat_le 1 u.1) ≡ true → (u.0.0 ≡ a) × (1 ≤ u.1)
some_told u a h =
    let both = and_parts (u.0.0 == a) (nat_le 1 u.1) h in
    let test : nat_le 1 u.1 ≡ true = both.1 in
    (eqb-true u.0.0 a both.0, grind (arith, nat_tests))

some_tells : (u : ActorId × ℕ) (a : ℕ) → u.0.0 ≡ a → 1 ≤ u.1 → ((u.0.0 == a) && nat_le 1 u.1) ≡ true
some_tells u a here some = let test : nat_le 1 u.1 ≡ true = grind (arith, nat_tests) in and_from (u.0.0 == a) (nat_le 1 u.1) (eq-eqb u.0.0 a here) test

uses_told : (uses : List (ActorId × ℕ)) (a : ℕ) → is_left (Some uses) a ≡ true → IsCallLeft uses a
uses_told [] a h = absurd cc
uses_told (u ∷ us) a h = elim (or_cases ((u.0.0 == a) && nat_le 1 u.1) (is_left (Some us) a) h) [ inl here ↦ inl (some_told u a here) | inr more ↦ inr (uses_told us a more) ]

uses_tell : (uses : List (ActorId × ℕ)) (a : ℕ) → IsCallLeft uses a → is_left (Some uses) a ≡ true
uses_tell [] a h = absurd h
uses_tell (u ∷ us) a (inl here) = or_left ((u.0.0 == a) && nat_le 1 u.1) (is_left (Some us) a) (some_tells u a here.0 here.1)
uses_tell (u ∷ us) a (inr more) = or_right ((u.0.0 == a) && nat_le 1 u.1) (is_left (Some us) a) (uses_tell us a more)

left_told : (left : Option (List (ActorId × ℕ))) (a : ℕ) → is_left left a ≡ true → HasLeft left a
left_told None a h = absurd cc
left_told (Some uses) a h = uses_told uses a h

left_tells : (left : Option (List (ActorId × ℕ))) (a : ℕ) → HasLeft left a → is_left left a ≡ true
left_tells None a h = absurd h
left_tells (Some uses) a h = uses_tell uses a h

-- ---- controls

pub rests_told : (c : Rest) (a : ℕ) → rests_on c a ≡ true → RestsOn c a
rests_told c a h = elim (or_cases (is_stood_on (c.top ∷ c.waiting) a) (is_left c.left a) h) [ inl on ↦ inl (stood_told (c.top ∷ c.waiting) a on) | inr left ↦ inr (left_told c.left a left) ]

pub rests_tells : (c : Rest) (a : ℕ) → RestsOn c a → rests_on c a ≡ true
rests_tells c a (inl on) = or_left (is_stood_on (c.top ∷ c.waiting) a) (is_left c.left a) (stood_tells (c.top ∷ c.waiting) a on)
rests_tells c a (inr left) = or_right (is_stood_on (c.top ∷ c.waiting) a) (is_left c.left a) (left_tells c.left a left)

-- a number is in a list, as a test
pub among_told : (a : ℕ) (xs : List ℕ) → is_among a xs ≡ true → Contains xs a
among_told a xs h =
    let some = Any-from_list_any (λ (x : ℕ). x == a) xs h in
    let P : ℕ → Type 0 = λ z. get_or xs some.0 z ≡ z in
    (some.0, some.2, subst P (eqb-true some.1 a some.4) some.3)

pub among_tells : (a : ℕ) (xs : List ℕ) → Contains xs a → is_among a xs ≡ true
among_tells a xs h = list_any_at (λ (x : ℕ). x == a) xs h.0 a h.1 (eq-eqb (get_or xs h.0 a) a h.2)
