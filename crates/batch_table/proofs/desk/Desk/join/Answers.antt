use Rattle.std.proofs.Common.{◌≡◌, ℕ, ◌+◌, ◌∷◌, [], ◌++◌, List, length, take, drop, arith, ap, sym, subst, ◌∙◌}
use Rattle.protocol.specs.Parts.{Pact, Batch, Desk}
use Rattle.protocol.specs.Numbers.{one_if}
use Rattle.batch_table.specs.declared.spots.Spot.{Spot}
use Rattle.batch_table.specs.Joining.{next_batch_number, first_number, first_or_zero, pact_tids, pact_txs, AllTidsBelow, AllTxsBelow, EachTxOnce}
use Rattle.batch_table.specs.Sound.{IsSoundDesk}
use Rattle.batch_table.specs.Spots.{with_spots}
use Rattle.batch_table.proofs.Keeping.{same_items, spots_sound, joined_sound}
use Rattle.batch_table.proofs.desk.Desk.join.Goals as goal

pub invariant_of-self : goal.invariant_of-self
invariant_of-self c =
    let i = c.self.inside in
    let b = c.args.batch in
    let bs = i.batches.items in
    let ws = c.write_spots.new.spots in
    let count : c.len.result ≡ length bs = omega (arith, c.len.ensures, i.batches.ok.0) in
    let written : ws ≡ with_spots (length bs) 0 (pact_txs b.pacts) i.spots.items =
    c.write_spots.ensures
    ∙ (ap (λ (n : ℕ). with_spots n 0 (pact_txs c.pacts.result.now) c.as_mut_slice.result.now) count
    ∙ (ap (λ (ps : List Pact). with_spots (length bs) 0 (pact_txs ps) c.as_mut_slice.result.now) c.pacts.ensures
    ∙ ap (λ (sp : List Spot). with_spots (length bs) 0 (pact_txs b.pacts) sp) c.as_mut_slice.ensures.value)) in
    let long : length ws ≡ length i.spots.items = omega (arith, c.write_spots.auto.spots, ap length c.as_mut_slice.ensures.value) in
    let in_text : AllTxsBelow (length i.replied) b.pacts = subst (λ (d : Desk). AllTxsBelow (length d.replied) b.pacts) (sym c.self.view_is) c.requires.may.in_text in
    let once : EachTxOnce bs b.pacts = subst (λ (d : Desk). EachTxOnce d.batches b.pacts) (sym c.self.view_is) c.requires.may.once in
    subst (λ (z : List Batch). IsSoundDesk i.base z i.settled i.replied (take i.spots.len (ws ++ drop (length ws) i.spots.items)) i.live i.front) (sym c.in_err-push.ensures.items)
    (subst (λ (sp : List Spot). IsSoundDesk i.base bs i.settled i.replied sp i.live i.front) (sym (same_items i.spots ws long ∙ written))
    (spots_sound i.base b.pacts bs i.settled i.replied i.spots.items i.live i.front c.self.invariant in_text once))

pub invariant_of-self-2 : goal.invariant_of-self-2
invariant_of-self-2 c =
    let i = c.self.inside in
    let b = c.args.batch in
    let bs = i.batches.items in
    let ws = c.write_spots.new.spots in
    let count : c.len.result ≡ length bs = omega (arith, c.len.ensures, i.batches.ok.0) in
    let written : ws ≡ with_spots (length bs) 0 (pact_txs b.pacts) i.spots.items =
    c.write_spots.ensures
    ∙ (ap (λ (n : ℕ). with_spots n 0 (pact_txs c.pacts.result.now) c.as_mut_slice.result.now) count
    ∙ (ap (λ (ps : List Pact). with_spots (length bs) 0 (pact_txs ps) c.as_mut_slice.result.now) c.pacts.ensures
    ∙ ap (λ (sp : List Spot). with_spots (length bs) 0 (pact_txs b.pacts) sp) c.as_mut_slice.ensures.value)) in
    let long : length ws ≡ length i.spots.items = omega (arith, c.write_spots.auto.spots, ap length c.as_mut_slice.ensures.value) in
    let in_text : AllTxsBelow (length i.replied) b.pacts = subst (λ (d : Desk). AllTxsBelow (length d.replied) b.pacts) (sym c.self.view_is) c.requires.may.in_text in
    let once : EachTxOnce bs b.pacts = subst (λ (d : Desk). EachTxOnce d.batches b.pacts) (sym c.self.view_is) c.requires.may.once in
    let above : AllTidsBelow (first_or_zero (pact_tids b.pacts)) bs = subst (λ (d : Desk). AllTidsBelow (first_or_zero (pact_tids b.pacts)) d.batches) (sym c.self.view_is) c.requires.may.above in
    let next : b.bid ≡ first_number i.settled bs + length bs = subst (λ (d : Desk). b.bid ≡ next_batch_number d) (sym c.self.view_is) c.requires.may.numbered in
    subst (λ (z : List Batch). IsSoundDesk i.base z i.settled i.replied (take i.spots.len (ws ++ drop (length ws) i.spots.items)) (i.live + c.from-live.result) i.front) (sym c.in_ok-push.ensures.items)
    (subst (λ (sp : List Spot). IsSoundDesk i.base (bs ++ b ∷ []) i.settled i.replied sp (i.live + c.from-live.result) i.front) (sym (same_items i.spots ws long ∙ written))
    (joined_sound i.base b bs i.settled i.replied i.spots.items i.live (i.live + c.from-live.result) i.front c.self.invariant
    next c.requires.may.some c.requires.may.consecutive above in_text once c.requires.fresh (omega (arith, c.from-live.ensures, ap one_if c.is_live.ensures))))
