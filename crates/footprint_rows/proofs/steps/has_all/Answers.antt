use Rattle.std.proofs.Common.{arith}
use Rattle.snap_base.proofs.Lists.{all_next}
use Rattle.snap_hand.specs.Hands.{Has}
use Rattle.footprint_rows.proofs.Moved.{all_taken, has_it}
use Rattle.footprint_rows.proofs.steps.has_all.Goals as goal

pub loop-n-preserved : goal.loop-n-preserved
loop-n-preserved c =
    all_next (Has c.args.hand.now) c.args.parts.now c.loop-n.n c.part.result c.part.ensures c.loop-n.invariant
    (has_it c.args.hand.now c.part.result c.has.result c.has.ensures c.if-not-has.false)

pub returns : goal.returns
returns c is = all_taken (Has c.args.hand.now) c.args.parts.now c.loop-n.n (omega (arith, c.len-n-end.ensures, c.loop-n-test.false)) c.loop-n.invariant
