use Rattle.std.proofs.Common.{Some, refl, sym, ap, ◌∙◌}
use Rattle.core_rows.specs.Showing.{ShowsRing, ShowsTxs}
use Rattle.protocol.specs.Effects.{after}
use Rattle.protocol.specs.Events.{Submit}
use Rattle.snap_hand.specs.Tables.{fixed_of}
use Rattle.snap_hand.proofs.Refits.{ring_back, hand_with_ring, there_with_ring}
use Rattle.snap_hand.proofs.Stepping.{stepped}
use Rattle.snap_hand.proofs.InBoxes.{lent}
use Rattle.snap_hand.proofs.on_ring.submit.Goals as goal

pub returns : goal.returns
unfolding after
returns c =
    let old = c.args.hand.now in
    let ring = c.submit-step.new.ring in
    let w = fixed_of c.args.tables.now in
    let there = (lent _ _ _ c.take_ring-ring.ensures.there c.deref_mut.ensures.value) in
    rw (c.put_ring.ensures, c.take_ring-ring.ensures.taken) (
    stepped w (Submit c.args.n.0) old (record old { ring = Some ring }) (λ v s. ShowsTxs c.as_slice.result.now v × ShowsRing c.deref_mut.result.now s) _ _ c.submit-step.result
    (λ s f. (sym c.as_slice.ensures, f.ring _ there)) refl
    c.submit-step.ensures.ok
    (λ taken. (λ s r f. let t = taken w s r (sym c.as_slice.ensures, f.ring _ there) in (t.0, ring_back old s f ring _ t.1), hand_with_ring w old c.requires.asked.places (Some ring), there_with_ring old ring _ there))
    c.submit-step.ensures.no
    c.submit-step.ensures.unchanged
    (λ same. ap (λ x. record old { ring = Some x }) same ∙ ap (λ o. record old { ring = o }) (sym there)))
