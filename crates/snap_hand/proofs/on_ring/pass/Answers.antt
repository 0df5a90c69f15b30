use Rattle.std.proofs.Common.{Some, sym, ap, ◌∙◌}
use Rattle.core_rows.specs.Showing.{ShowsRing}
use Rattle.protocol.specs.Effects.{after}
use Rattle.protocol.specs.Events.{Pass}
use Rattle.snap_hand.specs.Tables.{fixed_of}
use Rattle.snap_hand.proofs.Refits.{ring_back, hand_with_ring, there_with_ring}
use Rattle.snap_hand.proofs.Stepping.{stepped_freely}
use Rattle.snap_hand.proofs.InBoxes.{lent}
use Rattle.snap_hand.proofs.on_ring.pass.Goals as goal

pub returns : goal.returns
unfolding after
returns c =
    let old = c.args.hand.now in
    let ring = c.pass-step.new.ring in
    let w = fixed_of c.args._tables.now in
    rw (c.put_ring.ensures, c.take_ring-ring.ensures.taken) (
    stepped_freely w (Pass c.args.c) old (record old { ring = Some ring }) (λ w s. ShowsRing c.deref_mut.result.now s) _ _ c.pass-step.result
    (λ s f. f.ring _ (lent _ _ _ c.take_ring-ring.ensures.there c.deref_mut.ensures.value))
    c.pass-step.ensures.rule
    c.pass-step.ensures.ok
    (λ taken. (λ s r f. let t = taken w s r (f.ring _ (lent _ _ _ c.take_ring-ring.ensures.there c.deref_mut.ensures.value)) in (t.0, ring_back old s f ring _ t.1), hand_with_ring w old c.requires.asked.places (Some ring), there_with_ring old ring _ (lent _ _ _ c.take_ring-ring.ensures.there c.deref_mut.ensures.value)))
    c.pass-step.ensures.no
    c.pass-step.ensures.unchanged
    (λ same. ap (λ x. record old { ring = Some x }) same ∙ ap (λ o. record old { ring = o }) (sym (lent _ _ _ c.take_ring-ring.ensures.there c.deref_mut.ensures.value))))
