use Rattle.std.proofs.Common.{arith, ap}
use Rattle.protocol.specs.Parts.{Batch}
use Rattle.protocol.specs.Words.{is_live_batch}
use Rattle.protocol.specs.Numbers.{one_if}
use Rattle.batch_table.specs.Places.{gone}
use Rattle.batch_table.proofs.LiveCount.{map_step, count_more, at_rest}
use Rattle.batch_table.proofs.table.abort_all.Goals as goal

pub loop-batch-preserved : goal.loop-batch-preserved
loop-batch-preserved c =
    let xs = c.args.batches.now in
    let i = c.loop-batch.batch-index in
    let d = c.batch-item.result in
    let same = at_rest gone xs c.loop-batch.batches i d c.loop-batch-test.true c.loop-batch.invariant.changed in
    record {
      changed = map_step gone xs c.loop-batch.batches i d c.abort.new.self c.loop-batch-test.true (omega (arith, c.loop-batch.auto.batches)) c.loop-batch.invariant.changed c.abort.ensures;
      counted = omega (arith, c.loop-batch.invariant.counted, count_more is_live_batch xs i d c.loop-batch-test.true, ap (λ (b : Batch). one_if (is_live_batch b)) same, c.from-live.ensures, ap one_if c.is_live.ensures);
    }
