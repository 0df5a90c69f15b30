use Rattle.std.proofs.Common.{◌≡◌, ◌-◌, length, arith, ap, sym, ◌∙◌}
use Rattle.std.specs.List.{slice_get}
use Rattle.std.proofs.lemmas.List.{get_or_read}
use Rattle.ready_list.specs.Rings.{RoomedRing, ring_at}
use Rattle.ready_list.proofs.AmongRings.{all_from, got_here, got_behind}
use Rattle.ready_list.proofs.rings.nth_from.Goals as goal

pub loop-k-init : goal.loop-k-init
loop-k-init c = ap (λ es. slice_get es c.args.n) (all_from c.args.kinds.now c.args.first c.requires)

pub returns-then-left-count : goal.returns-then-left-count
returns-then-left-count c =
    let here : c.index-kinds-k.result ≡ ring_at c.args.kinds.now c.loop-k.k = get_or_read c.args.kinds.now c.loop-k.k c.index-kinds-k.result (omega (arith, c.loop-k-test.true)) c.index-kinds-k.is _ in
    c.nth.ensures
    ∙ ap (λ r. slice_get r.events c.loop-k.left) here
    ∙ sym (got_here c.args.kinds.now c.loop-k.k c.loop-k.left (omega (arith, c.loop-k-test.true)) (omega (arith, c.if-left-count.true, c.count-count.ensures, ap (λ (r : RoomedRing). length r.events) here)))
    ∙ sym c.loop-k.invariant

pub loop-k-preserved : goal.loop-k-preserved
loop-k-preserved c =
    let here : c.index-kinds-k.result ≡ ring_at c.args.kinds.now c.loop-k.k = get_or_read c.args.kinds.now c.loop-k.k c.index-kinds-k.result (omega (arith, c.loop-k-test.true)) c.index-kinds-k.is _ in
    c.loop-k.invariant
    ∙ got_behind c.args.kinds.now c.loop-k.k c.loop-k.left (c.loop-k.left - c.count-count.result) (omega (arith, c.loop-k-test.true)) (omega (arith, c.if-left-count.false, c.count-count.ensures, ap (λ (r : RoomedRing). length r.events) here))
