use Rattle.std.proofs.Common.{◌≡◌, ◌+◌, take, get_or, arith}
use Rattle.std.proofs.Common.{max}
use Rattle.snap_base.specs.declared.ids.Tid.{Tid}
use Rattle.txn_records.specs.Records.{tid_numbers}
use Rattle.snap_recover.specs.Opening.{greatest}
use Rattle.snap_recover.proofs.Steps.{greatest_map_step, greater_is}
use Rattle.snap_recover.proofs.numbers.greatest_of.Goals as goal

pub loop-tid-preserved : goal.loop-tid-preserved
loop-tid-preserved c =
    let i = c.loop-tid.tid-index in
    let step : greatest (tid_numbers (take (i + 1) c.args.tids.now)) ≡ max (greatest (tid_numbers (take i c.args.tids.now))) (get_or c.args.tids.now i (record { 0 = 0 })).0 =
    greatest_map_step (λ (t : Tid). t.0) c.args.tids.now i (record { 0 = 0 }) c.loop-tid-test.true in
    let so_far : c.loop-tid.most ≡ greatest (tid_numbers (take i c.args.tids.now)) = c.loop-tid.invariant in
    let all : c.max-most.result ≡ greatest (tid_numbers (take (i + 1) c.args.tids.now)) = omega (arith, step, so_far, greater_is c.loop-tid.most (get_or c.args.tids.now i (record { 0 = 0 })).0) in
    all
