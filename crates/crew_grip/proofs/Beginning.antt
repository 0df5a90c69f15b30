-- A grip that holds nothing.
use Rattle.std.proofs.Common.{◌≡◌, ℕ, zero, suc, List, [], ◌∷◌, ◌++◌, length, map, replicate, option_map, Option, None, ap, sym, refl, ◌∙◌}
use Rattle.std.proofs.lemmas.List.{length-replicate}
use Rattle.aml_slice.specs.Controls.{Rest}
use Rattle.crew_parts.specs.Shares.{ShareState}
use Rattle.protocol.specs.Fixed.{Fixed}
use Rattle.snap_hand.specs.Hands.{IsHandOf}
use Rattle.snap_hand.specs.Shown.{Shown, TheLog, TheCell, no_parts, places}
use Rattle.turn_table.specs.Places.{IsIdle, at}
use Rattle.crew_grip.specs.Grips.{GripState, IsGripOf, beside_in, part_count, part_in}
use Rattle.crew_grip.proofs.ByNumber.{at_none}
use Rattle.crew_grip.proofs.HandsHold.{part_is}

mapped_none : {A : Type 0} (f : A → Shown) (n j : ℕ) → at (map (option_map f) (replicate n None)) j ≡ None
mapped_none f zero j = refl
mapped_none f (suc n) zero = refl
mapped_none f (suc n) (suc j) = mapped_none f n j

append_none : (xs ys : List (Option Shown)) → ((j : ℕ) → at xs j ≡ None) → ((j : ℕ) → at ys j ≡ None) → (j : ℕ) → at (xs ++ ys) j ≡ None
append_none [] ys a b j = b j
append_none (x ∷ xs) ys a b zero = a zero
append_none (x ∷ xs) ys a b (suc j) = append_none xs ys (λ k. a (suc k)) b j

no_place : (logs cells j : ℕ) → at (places (no_parts logs cells)) j ≡ None
no_place logs cells zero = refl
no_place logs cells (suc zero) = refl
no_place logs cells (suc (suc zero)) = refl
no_place logs cells (suc (suc (suc zero))) = refl
no_place logs cells (suc (suc (suc (suc j)))) =
    append_none (map (option_map TheLog) (replicate logs None)) (map (option_map TheCell) (replicate cells None)) (mapped_none TheLog logs) (mapped_none TheCell cells) j

pub nothing_yet : (w : Fixed Rest) (logs cells n : ℕ) (held : List (Option ShareState)) (g : GripState) → IsHandOf w g.hand → g.hand ≡ no_parts logs cells → g.besides ≡ replicate n None → n ≡ part_count w
    → IsIdle held → IsGripOf w held g
nothing_yet w logs cells n held g of hand besides many idle = record {
  places = of;
  many = ap length besides ∙ (length-replicate n None ∙ many);
  parts = λ i. part_is g.hand i ∙ (ap (λ h. at (places h) i) hand ∙ (no_place logs cells i ∙ sym (ap part_in (idle i))));
  besides = λ i. ap (λ bs. at bs i) besides ∙ (at_none n i ∙ sym (ap beside_in (idle i)));
}
