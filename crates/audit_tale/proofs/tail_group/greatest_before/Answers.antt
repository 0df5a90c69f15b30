use Rattle.std.proofs.Common.{◌≡◌, ◌-◌, true, arith, ap}
use Rattle.snap_base.specs.declared.ids.Bid.{Bid}
use Rattle.audit_words.specs.Seen.{was_admitted}
use Rattle.audit_tale.proofs.Tails.{each_lock, greatest_end, greatest_next}
use Rattle.audit_tale.proofs.tail_group.greatest_before.Goals as goal

pub loop-left-preserved : goal.loop-left-preserved
loop-left-preserved c = (
  omega (arith, c.loop-left.invariant.0),
  λ w s h all. greatest_next s (c.loop-left.left - 1) c.loop-left.left c.args.ts.now (record { 0 = 0 }) c.loop-left.most.0 c.later-most.result.0 c.before_of.result.0 (omega (arith, c.loop-left.invariant.0, c.loop-left-test.true)) (omega (arith, c.loop-left-test.true)) (c.loop-left.invariant.1 w s h all)
      (c.before_of.ensures w s h (each_lock s (λ x. was_admitted x.tid s ≡ true) c.args.ts.now (c.loop-left.left - 1) (record { 0 = 0 }) (omega (arith, c.loop-left.invariant.0, c.loop-left-test.true)) all)) (ap (λ (z : Bid). z.0) c.later-most.ensures),
)

pub returns : goal.returns
returns c w s h all = greatest_end s c.loop-left.left c.args.ts.now c.loop-left.most.0 (omega (arith, c.loop-left-test.false)) (c.loop-left.invariant.1 w s h all)
