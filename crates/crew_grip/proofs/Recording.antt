-- An act that is recorded: it may happen on what is held, and what it made of that is held behind it.
use Rattle.std.proofs.Common.{◌≡◌, ℕ, Bool, true, false, inl, inr, ◌||◌, is_some, List, [], ◌∷◌, map, Option, None, Some, ap, sym, subst, refl, ◌∙◌, true≢false}
use Rattle.aml_slice.specs.Controls.{Rest}
use Rattle.snap_hand.specs.core_rows.OnRuns.{HasRun}
use Rattle.crew_parts.specs.Acts.{AreShown, EachGoes, ShareGoes, behind}
use Rattle.crew_parts.specs.Shares.{ShareState, share_of}
use Rattle.protocol.specs.Conditions.{IsAllowed}
use Rattle.protocol.specs.Events.{Event}
use Rattle.protocol.specs.Fixed.{Fixed}
use Rattle.protocol.specs.Parts.{Machine}
use Rattle.protocol.specs.Words.{is_among}
use Rattle.snap_hand.specs.Hands.{Parts, Fits, IsHandOf, are_there}
use Rattle.snap_hand.specs.Shown.{Shown, IsPartOf, part_at, places}
use Rattle.std.proofs.lemmas.Bool.Decides.{eqb_tells}
use Rattle.turn_table.specs.Places.{at, Covers, before, held_after, values}
use Rattle.crew_grip.specs.Acted.{HasActed, IsJust}
use Rattle.crew_grip.specs.Grips.{GripState, IsGripOf, beside_in, joined, part_in, share_at}
use Rattle.crew_grip.proofs.ByNumber.{none_of, covered, after_else, after_here, same_there}
use Rattle.turn_table.proofs.ByPlace.{some_of}
use Rattle.crew_grip.proofs.HandsHold.{part_is, hand_fits, held_part}

module _ (w : Fixed Rest) (s : Machine Rest) where
  -- each of the shown parts is one of the state
  pub shown_is : (f : ℕ → Option ShareState) (is : List ℕ) → AreShown w s is (values f is) → Covers f is → (i : ℕ) (x : ShareState) → is_among i is ≡ true → f i ≡ Some x → IsPartOf w s i x.part
  shown_is f [] shown covers i x among is = absurd (true≢false (sym among))
  shown_is f (j ∷ js) shown covers i x among is =
      let there = some_of (f j) covers.0 in
      let each : AreShown w s (j ∷ js) (there.0 ∷ values f js) = subst (λ o. AreShown w s (j ∷ js) (before o (values f js))) there.1 shown in
      elim (eqb_tells j i) [
        | inl h ↦ subst (λ k. IsPartOf w s k x.part) h.1 (subst (λ y. IsPartOf w s j y.part) (same there.0 x (sym there.1 ∙ (ap f h.1 ∙ is))) each.0)
        | inr h ↦ shown_is f js each.1 covers.1 i x (sym (ap (λ b. b || is_among i js) h.0) ∙ among) is
      ] where
        same : (a b : ShareState) → Some a ≡ Some b → a ≡ b
        same a b e = cc e

module _ (w : Fixed Rest) (held : List (Option ShareState)) (old new : GripState) (is : List ℕ) (done : Bool) (e : Event)
    (grip : IsGripOf w held old) (just : IsJust is held) (acted : HasActed w done e old new)
    (told : (h : Parts) → map is_some (places h) ≡ are_there h)
  where
    part_as_before : (i : ℕ) → is_some (part_at new.hand i) ≡ is_some (part_at old.hand i)
    part_as_before i =
        ap is_some (part_is new.hand i)
        ∙ (same_there (places new.hand) (places old.hand) i (told new.hand ∙ (acted.same_parts ∙ sym (told old.hand))) ∙ ap is_some (sym (part_is old.hand i)))

    -- what is there now where something was held
    new_share : (i : ℕ) (x : ShareState) → at held i ≡ Some x → (y : ShareState) × ((share_at new i ≡ Some y) × ((part_at new.hand i ≡ Some y.part) × (at new.besides i ≡ Some y.beside)))
    new_share i x here =
        let p = some_of (part_at new.hand i) (part_as_before i ∙ ap is_some (grip.parts i ∙ ap part_in here)) in
        let b = some_of (at new.besides i) (acted.there i ∙ ap is_some (grip.besides i ∙ ap beside_in here)) in
        (share_of p.0 b.0, (ap (λ o. joined o (at new.besides i)) p.1 ∙ ap (joined (Some p.0)) b.1, (p.1, b.1)))

    new_covers : (js : List ℕ) → Covers (at held) js → Covers (share_at new) js
    new_covers [] c = tt
    new_covers (j ∷ js) c =
        let x = some_of (at held j) c.0 in
        (ap is_some (new_share j x.0 x.1).1.0, new_covers js c.1)

    module _ (taken_is : (h : Parts) (s : Machine Rest) (i : ℕ) (p : Shown) → IsHandOf w h → Fits h s → part_at h i ≡ Some p → IsPartOf w s i p) where
      each_goes : (s : Machine Rest) → HasRun w s → Fits old.hand s → (js : List ℕ) → Covers (at held) js → EachGoes w s done e js (values (at held) js) (values (share_at new) js)
      each_goes s run fits [] c = (refl, refl)
      each_goes s run fits (j ∷ js) c =
          let x = some_of (at held j) c.0 in
          let y = new_share j x.0 x.1 in
          let goes = acted.besides s run fits j x.0.beside y.0.beside (grip.besides j ∙ ap beside_in x.1) y.1.1.1 in
          let one : ShareGoes w s done e j x.0 y.0 = record {
            part = taken_is new.hand (behind w done e s) j y.0.part acted.places (acted.fits s run fits) y.1.1.0;
            journal = goes.journal;
            output = goes.output;
          } in
          subst (λ o. EachGoes w s done e (j ∷ js) (before o (values (at held) js)) (before (share_at new j) (values (share_at new) js))) (sym x.1)
          (subst (λ o. EachGoes w s done e (j ∷ js) (x.0 ∷ values (at held) js) (before o (values (share_at new) js))) (sym y.1.0) (one, each_goes s run fits js c.1))

      among : (i : ℕ) (x : ShareState) → at held i ≡ Some x → is_among i is ≡ true
      among i x here = told_by (is_among i is) refl where
        told_by : (b : Bool) → is_among i is ≡ b → is_among i is ≡ true
        told_by true q = q
        told_by false q = absurd (none_some (sym (just.others i q) ∙ here)) where
          none_some : None ≡ Some x → ⊥
          none_some f = cc f

      fits_shown : (s : Machine Rest) → AreShown w s is (values (at held) is) → Fits old.hand s
      fits_shown s shown = hand_fits w old.hand s grip.places (λ i p there. (
          let x = held_part w held old i p grip there in
          subst (IsPartOf w s i) x.1.1 (shown_is w s (at held) is shown just.all i x.0 (among i x.0 x.1.0) x.1.0)))

      pub may_be_made : Covers (at held) is × ((s : Machine Rest) → HasRun w s → AreShown w s is (values (at held) is) → IsAllowed w e s × EachGoes w s done e is (values (at held) is) (values (share_at new) is))
      may_be_made = (
        just.all,
        λ s run shown. (
            let fits = fits_shown s shown in
            (acted.allowed s run fits, each_goes s run fits is just.all)),
      )

    -- and then this is held
    pub grip_after : IsGripOf w (held_after held is (values (share_at new) is)) new
    grip_after = record {
      places = acted.places;
      many = acted.many ∙ grip.many;
      parts = λ i. part_at_now i (is_among i is) refl;
      besides = λ i. beside_at_now i (is_among i is) refl;
    } where
      now_at : (i : ℕ) → is_among i is ≡ true → at (held_after held is (values (share_at new) is)) i ≡ share_at new i
      now_at i q = after_here held (share_at new) is i (new_covers is just.all) q

      nothing_at : (i : ℕ) → is_among i is ≡ false → at (held_after held is (values (share_at new) is)) i ≡ None
      nothing_at i q = after_else held is (values (share_at new) is) i q ∙ just.others i q

      part_at_now : (i : ℕ) (b : Bool) → is_among i is ≡ b → part_at new.hand i ≡ part_in (at (held_after held is (values (share_at new) is)) i)
      part_at_now i true q =
          let x = some_of (at held i) (covered (at held) is i just.all q) in
          let y = new_share i x.0 x.1 in
          y.1.1.0 ∙ sym (ap part_in (now_at i q ∙ y.1.0))
      part_at_now i false q =
          none_of (part_at new.hand i) (part_as_before i ∙ ap is_some (grip.parts i ∙ ap part_in (just.others i q))) ∙ sym (ap part_in (nothing_at i q))

      beside_at_now : (i : ℕ) (b : Bool) → is_among i is ≡ b → at new.besides i ≡ beside_in (at (held_after held is (values (share_at new) is)) i)
      beside_at_now i true q =
          let x = some_of (at held i) (covered (at held) is i just.all q) in
          let y = new_share i x.0 x.1 in
          y.1.1.1 ∙ sym (ap beside_in (now_at i q ∙ y.1.0))
      beside_at_now i false q =
          none_of (at new.besides i) (acted.there i ∙ ap is_some (grip.besides i ∙ ap beside_in (just.others i q))) ∙ sym (ap beside_in (nothing_at i q))
