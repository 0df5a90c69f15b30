-- What becomes of a control: slices, one after the other, and then what is returned of its transaction.
use Rattle.std.proofs.Common.{◌≡◌, ℕ, ◌<◌, Bool, true, false, Result, Ok, Err, IfOk, List, length, get_or, sym, ap, ◌∙◌, subst, arith}
use Rattle.std.proofs.lemmas.List.{get_or_read}
use Rattle.snap_base.specs.declared.ids.ActorId.{ActorId}
use Rattle.snap_base.specs.declared.memory.Memory.{Memory}
use Rattle.snap_base.specs.declared.transactions.State.{State}
use Rattle.snap_base.specs.declared.transactions.TxResult.{TxResult}
use Rattle.snap_base.specs.declared.transactions.TxResult.TheVariants as result
use Rattle.aml_tree.specs.Tree.{CheckedMethod}
use Rattle.snap_base.specs.Outcomes.{Alone}
use Rattle.aml_check.specs.Meaning.{state_at, zero_state}
use Rattle.aml_slice.specs.Controls.{Rest}
use Rattle.snap_base.specs.declared.next.Next.{Next}
use Rattle.snap_base.specs.declared.next.Next.TheVariants.{Go}
use Rattle.aml_slice.specs.Slicing.{SliceEnd, slice_end}
use Rattle.aml_slice.specs.Wholes.{world_after}
use Rattle.aml_slice.specs.Moments.{HandsOn, IsHandedOn}
use Rattle.aml_slice.specs.Finishing.{after_slice, finished}
use Rattle.aml_serial.specs.Images.{has_value}

abbrev end_at : State → Next Rest → SliceEnd
end_at t next = record { state = t; next = next }

-- the state that is read at an actor
pub found_at : (w : List State) (a b count : ℕ) (s : State) → s ≡ get_or w a s → a ≡ b → b < count → length w ≡ count → state_at w b ≡ s
found_at w a b count s read same known size =
    let inside : a < length w = omega (arith, same, known, size) in
    ap (λ (i : ℕ). state_at w i) (sym same) ∙ sym (get_or_read w a s inside read zero_state)

-- what a slice hands on
pub handed_on : (p : List CheckedMethod) (count : ℕ) (c : Rest) (s t : State) (b : ActorId) (d : Rest) → IsHandedOn p count c (slice_end p count c s).next → end_at t (Go b d) ≡ slice_end p count c s → HandsOn p count c b d
handed_on p count c s t b d on slice = let P : SliceEnd → Type 0 = λ x. IsHandedOn p count c x.next in subst P (sym slice) on

-- what becomes of a control is what becomes of it behind a slice
pub finishes : (p : List CheckedMethod) (count : ℕ) (c : Rest) (w : List State) (s t : State) (next : Next Rest)
    → finished p count c w ≡ after_slice (finished p count) c w (slice_end p count c (state_at w c.top.actor)) → state_at w c.top.actor ≡ s → end_at t next ≡ slice_end p count c s
    → finished p count c w ≡ after_slice (finished p count) c w (end_at t next)
finishes p count c w s t next keeps here slice =
    keeps ∙ ap (λ (u : State). after_slice (finished p count) c w (slice_end p count c u)) here ∙ ap (after_slice (finished p count) c w) (sym slice)

abbrev after : TxResult → List State → Alone
after r w = record { result = r; world = w }

abbrev ended : List CheckedMethod → ℕ → List State → Rest → Alone
ended p count w c = after (finished p count c w).result (world_after (finished p count c w).result w (finished p count c w).world)

-- What is returned of a transaction: of a value the states that its slices left, of a failure those that were there before.
pub returned : (p : List CheckedMethod) (count : ℕ) (w v u : List State) (c d : Rest) (whole : Alone) (o : Result TxResult Memory) (b : Bool)
    → whole ≡ ended p count w d → c ≡ d → b ≡ has_value o → (b ≡ true → u ≡ v) → (b ≡ false → u ≡ w)
    → IfOk o (λ r. finished p count c w ≡ record { result = r; world = v }) → IfOk o (λ r. whole ≡ record { result = r; world = u })
returned p count w v u c d whole (Ok (result.Value x)) b alone same test stays goes ends =
    alone ∙ ap (ended p count w) (sym same) ∙ ap (λ (a : Alone). after a.result (world_after a.result w a.world)) ends ∙ ap (after (result.Value x)) (sym (stays test))
returned p count w v u c d whole (Ok (result.Fail code)) b alone same test stays goes ends =
    alone ∙ ap (ended p count w) (sym same) ∙ ap (λ (a : Alone). after a.result (world_after a.result w a.world)) ends ∙ ap (after (result.Fail code)) (sym (goes test))
returned p count w v u c d whole (Err memory) b alone same test stays goes ends = tt
