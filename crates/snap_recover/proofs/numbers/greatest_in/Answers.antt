use Rattle.std.proofs.Common.{ℕ, List, arith}
use Rattle.txn_records.specs.declared.records.Record.{Record}
use Rattle.snap_recover.specs.Logs.{bids_in, tids_in, commits_in}
use Rattle.snap_recover.proofs.Steps.{greatest_step}
use Rattle.snap_recover.proofs.numbers.greatest_in.Goals as goal

pub loop-r-preserved : goal.loop-r-preserved
loop-r-preserved c =
    let step = λ (numbers : Record → List ℕ). greatest_step numbers c.args.rs.now c.loop-r.r-index c.r-item.result c.loop-r-test.true c.r-item.is in
    record {
      tid = omega (arith, step tids_in, c.loop-r.invariant.tid, c.raised-most.ensures.tid);
      bid = omega (arith, step bids_in, c.loop-r.invariant.bid, c.raised-most.ensures.bid);
      commit = omega (arith, step commits_in, c.loop-r.invariant.commit, c.raised-most.ensures.commit);
    }
