use Rattle.std.proofs.Common.{arith, ◌∙◌}
use Rattle.trace_audit.proofs.Walking.{stamped_next}
use Rattle.trace_audit.proofs.order.put_stamps.Goals as goal

pub loop-tid-preserved : goal.loop-tid-preserved
loop-tid-preserved c = record {
  many = c.put_stamp.ensures.many ∙ c.loop-tid.invariant.many;
  few = λ h. c.put_stamp.ensures.few (c.loop-tid.invariant.few h);
  stamped = λ t h.
      stamped_next c.args.stamp t c.args.stamps.now.items c.loop-tid.stamps.items c.put_stamp.new.stamps.items c.args.ran.now c.loop-tid.tid-index (record { 0 = 0 }) c.loop-tid-test.true
      (c.put_stamp.ensures.stamped t (omega (arith, c.loop-tid.invariant.many))) (c.loop-tid.invariant.stamped t h);
}
