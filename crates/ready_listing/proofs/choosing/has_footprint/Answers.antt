use Rattle.std.proofs.Common.{sym, ap, ◌∙◌}
use Rattle.std.specs.List.{list_all}
use Rattle.snap_hand.specs.Hands.{is_at_hand}
use Rattle.ready_listing.proofs.Lists.{all_more, not_all}
use Rattle.ready_listing.proofs.choosing.has_footprint.Goals as goal

pub returns-then-not-has : goal.returns-then-not-has
returns-then-not-has c =
    let h = c.args.hand.now in
    sym (not_all (is_at_hand h) c.footprint-parts.result c.loop-i.i c.part.result c.part.ensures (sym c.has.ensures ∙ c.if-not-has.true))
    ∙ ap (list_all (is_at_hand h)) c.footprint-parts.ensures

pub loop-i-preserved : goal.loop-i-preserved
loop-i-preserved c =
    let h = c.args.hand.now in
    all_more (is_at_hand h) c.footprint-parts.result c.loop-i.i c.part.result c.part.ensures c.loop-i.invariant (sym c.has.ensures ∙ c.if-not-has.false)
