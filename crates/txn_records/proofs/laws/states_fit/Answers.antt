use Rattle.std.proofs.Common.{◌<◌, ◌≤◌, length, get_or, pos, arith, rules, FitsSigned}
use Rattle.std.specs.Int.{w64}
use Rattle.txn_records.proofs.SoFar.{each_more, each_there}
use Rattle.txn_records.proofs.laws.states_fit.Goals as goal

pub loop-field-preserved : goal.loop-field-preserved
loop-field-preserved c =
    let here : c.loop-field.field-index < length c.args.state.now.0 = omega arith in
    let fits : FitsSigned w64 (get_or c.args.state.now.0 c.loop-field.field-index (pos 0)) = search rules in
    each_more (FitsSigned w64) c.args.state.now.0 c.loop-field.field-index (pos 0) here c.loop-field.invariant fits

pub returns : goal.returns
returns c =
    let all : length c.args.state.now.0 ≤ c.loop-field.field-index = omega arith in
    record { len = omega arith; fields = each_there (FitsSigned w64) c.args.state.now.0 c.loop-field.field-index all c.loop-field.invariant }
