use Rattle.snap_base.proofs.Lists.{all_next}
use Rattle.crew_grip.specs.Acted.{IsReadyAt}
use Rattle.crew_grip.proofs.grips.Grip.is_ready.Goals as goal

pub loop-i-preserved : goal.loop-i-preserved
loop-i-preserved g c = all_next (λ i. IsReadyAt c.args.logs c.args.self.now i) c.args.footprint.now c.loop-i.i c.part.result c.part.ensures c.loop-i.invariant (c.is_ready_at.ensures.only c.if-not-is_ready_at.false)
