use Rattle.std.proofs.Common.{◌<◌, ◌≤◌, length, get_or, pos, arith, rules, FitsSigned}
use Rattle.std.specs.Int.{w64}
use Rattle.txn_records.proofs.SoFar.{each_more, each_there}
use Rattle.txn_records.proofs.laws.values_fit.Goals as goal

pub loop-value-preserved : goal.loop-value-preserved
loop-value-preserved c =
    let here : c.loop-value.value-index < length c.args.values.now = omega arith in
    let fits : FitsSigned w64 (get_or c.args.values.now c.loop-value.value-index (pos 0)) = search rules in
    each_more (FitsSigned w64) c.args.values.now c.loop-value.value-index (pos 0) here c.loop-value.invariant fits

pub returns : goal.returns
returns c =
    let all : length c.args.values.now ≤ c.loop-value.value-index = omega arith in
    each_there (FitsSigned w64) c.args.values.now c.loop-value.value-index all c.loop-value.invariant
