use Rattle.std.proofs.Common.{arith}
use Rattle.log_compact.proofs.Counting.{acts_next}
use Rattle.log_compact.proofs.numbers.acts_in.Goals as goal

pub loop-k-preserved : goal.loop-k-preserved
loop-k-preserved c =
    let more = acts_next c.args.committed.now c.loop-k.k-index c.k-item.result c.loop-k-test.true c.k-item.is in
    (omega (arith, more, c.loop-k.invariant.0, c.acts_of-count.ensures.one), omega (arith, c.loop-k.invariant.1, c.acts_of-count.ensures.few))
