use Rattle.std.proofs.Common.{◌+◌, take, drop}
use Rattle.snap_recover.specs.Opening.{IsInRange}
use Rattle.snap_recover.proofs.Steps.{split_at, all_step}
use Rattle.snap_recover.proofs.ranges.first_out_of_range.Goals as goal

pub returns-then-not-in_range : goal.returns-then-not-in_range
returns-then-not-in_range c = (
  take c.loop-r.r-index c.args.rs.now,
  drop (c.loop-r.r-index + 1) c.args.rs.now,
  split_at c.args.rs.now c.loop-r.r-index c.r-item.result c.loop-r-test.true c.r-item.is,
  c.loop-r.invariant,
  λ h. let yes = c.in_range.ensures.1 h in cc,
)

pub loop-r-preserved : goal.loop-r-preserved
loop-r-preserved c = all_step (IsInRange c.args.actors) c.args.rs.now c.loop-r.r-index c.r-item.result c.loop-r-test.true c.r-item.is c.loop-r.invariant (c.in_range.ensures.0 c.if-not-in_range.false)
