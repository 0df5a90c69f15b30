use Rattle.std.proofs.Common.{ℕ, List, ap, arith}
use Rattle.std.specs.List.{flat_map}
use Rattle.txn_records.specs.declared.records.Record.{Record}
use Rattle.snap_recover.specs.Logs.{bids_in, tids_in, commits_in}
use Rattle.snap_recover.specs.Opening.{greatest}
use Rattle.snap_recover.proofs.Steps.{greatest_logs_step}
use Rattle.snap_recover.proofs.numbers.greatest_over.Goals as goal

pub loop-rs-preserved : goal.loop-rs-preserved
loop-rs-preserved c =
    let step = λ (numbers : Record → List ℕ). greatest_logs_step numbers c.args.logs.now c.loop-rs.rs-index c.rs-item.result c.loop-rs-test.true c.rs-item.is in
    let same = λ (numbers : Record → List ℕ). ap (λ (z : List Record). greatest (flat_map numbers z)) c.as_slice.ensures in
    record {
      tid = omega (arith, step tids_in, same tids_in, c.loop-rs.invariant.tid, c.greatest_in-most.ensures.tid);
      bid = omega (arith, step bids_in, same bids_in, c.loop-rs.invariant.bid, c.greatest_in-most.ensures.bid);
      commit = omega (arith, step commits_in, same commits_in, c.loop-rs.invariant.commit, c.greatest_in-most.ensures.commit);
    }
