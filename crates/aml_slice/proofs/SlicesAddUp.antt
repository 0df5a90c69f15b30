-- Slices, one after the other, add up to the transaction alone.
use Rattle.std.proofs.Common.{◌≡◌, ℕ, ◌<◌, ℤ, Result, Ok, Err, List, [], ◌∷◌, length, set, sym, ap, ◌∙◌, arith}
use Rattle.std.proofs.lemmas.List.{length-set}
use Rattle.snap_base.specs.declared.ids.Tid.{Tid}
use Rattle.snap_base.specs.declared.transactions.State.{State}
use Rattle.snap_base.specs.declared.transactions.Tx.{Tx}
use Rattle.snap_base.specs.declared.transactions.TxResult.{TxResult}
use Rattle.snap_base.specs.declared.transactions.TxResult.TheVariants as result
use Rattle.aml_tree.specs.Tree.{CheckedMethod}
use Rattle.snap_base.specs.Outcomes.{Alone}
use Rattle.aml_check.specs.Meaning.{Progress, alone, ended_alone}
use Rattle.aml_slice.specs.Controls.{Rest}
use Rattle.aml_slice.specs.Wholes.{rest_gives, Holds, BeginsTransaction, HandedOn, RunsInSlices, world_after}

-- what the rest gives is this value and world, or this code
abbrev Gives : Result (ℤ × Progress) ℕ → TxResult → List State → Type 0
Gives o (result.Value v) after = (q : Progress) × (o ≡ Ok (v, q)) × (q.world ≡ after)
Gives o (result.Fail code) after = o ≡ Err code

gives_also : (o p : Result (ℤ × Progress) ℕ) (r : TxResult) (after : List State) → o ≡ p → Gives p r after → Gives o r after
gives_also o p (result.Value v) after e h = (h.0, e ∙ h.1, h.2)
gives_also o p (result.Fail code) after e h = e ∙ h

sliced_gives : (p : List CheckedMethod) (count : ℕ) (c : Rest) (w : List State) (cuts : List HandedOn) (r : TxResult) (after : List State) → length w ≡ count → RunsInSlices p count c w cuts r after → Gives (rest_gives p c w) r after
sliced_gives p count c w [] (result.Value v) after size h =
    let holds : Holds count c.top.actor h.0 w = record { size = size; state = h.2 } in
    let last = h.3 w holds in
    (last.0, last.1, last.2 ∙ sym h.4)
sliced_gives p count c w [] (result.Fail code) after size h =
    let holds : Holds count c.top.actor h.0 w = record { size = size; state = h.2 } in
    h.3 w holds
sliced_gives p count c w (cut ∷ cuts) r after size h =
    let holds : Holds count c.top.actor cut.found w = record { size = size; state = h.0 } in
    gives_also (rest_gives p c w) (rest_gives p cut.rest (set w c.top.actor cut.left)) r after (h.1 w holds)
    (sliced_gives p count cut.rest (set w c.top.actor cut.left) cuts r after (length-set w c.top.actor cut.left ∙ size) h.2)

ends_so : (w : List State) (o : Result (ℤ × Progress) ℕ) (r : TxResult) (after : List State) → Gives o r after → ended_alone w o ≡ record { result = r; world = world_after r w after }
ends_so w o (result.Value v) after h = ap (ended_alone w) h.1 ∙ ap (λ (z : List State). let a : Alone = record { result = result.Value v; world = z } in a) h.2
ends_so w o (result.Fail code) after h = ap (ended_alone w) h

pub add_up : (p : List CheckedMethod) (count : ℕ) (tid : Tid) (tx : Tx) (c : Rest) (w : List State) (cuts : List HandedOn) (r : TxResult) (after : List State)
    → BeginsTransaction p tid tx c → tx.actor.0 < count → length w ≡ count → RunsInSlices p count c w cuts r after → alone p w tx ≡ record { result = r; world = world_after r w after }
add_up p count tid tx c w cuts r after begins known size slice_end =
    begins.whole w (omega (arith, known, size)) ∙ ends_so w (rest_gives p c w) r after (sliced_gives p count c w cuts r after size slice_end)
