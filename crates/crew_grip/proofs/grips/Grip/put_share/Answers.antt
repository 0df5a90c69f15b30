use Rattle.std.proofs.Common.{ap, sym, subst, ◌∙◌}
use Rattle.crew_parts.specs.Shares.{ShareState}
use Rattle.snap_hand.specs.Hands.{Parts}
use Rattle.snap_hand.specs.Shown.{Belongs, part_at, shown}
use Rattle.crew_grip.specs.Grips.{GripState}
use Rattle.crew_grip.proofs.grips.Grip.put_share.Goals as goal

pub put-requires-clause-kind : goal.put-requires-clause-kind
put-requires-clause-kind g c =
    subst (λ (h : Parts). Belongs h c.args.part (shown c.open-one.result.0)) (sym (ap (λ (g : GripState). g.hand) c.self.view_is))
    (subst (λ (x : ShareState). Belongs c.args.self.now.hand c.args.part x.part) c.open-one.ensures c.requires.kind)

pub put-requires-clause-free : goal.put-requires-clause-free
put-requires-clause-free g c = ap (λ (g : GripState). part_at g.hand c.args.part) c.self.view_is ∙ c.requires.free
