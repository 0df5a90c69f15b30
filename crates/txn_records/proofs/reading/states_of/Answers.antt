use Rattle.std.proofs.Common.{arith}
use Rattle.std.proofs.lemmas.Result.{err_from_is_err_and}
use Rattle.txn_records.specs.Records.{IsState, state_bytes}
use Rattle.txn_records.proofs.OneRecord.{states_apart}
use Rattle.txn_records.proofs.SoFar.{list_begins, list_more, list_fails}
use Rattle.txn_records.proofs.reading.states_of.Goals as goal

pub loop-i-init : goal.loop-i-init
loop-i-init c = list_begins IsState state_bytes _ _ _ c.new-states.ensures

pub returns-in_err-state : goal.returns-in_err-state
returns-in_err-state c =
    let p = err_from_is_err_and c.from_residual.result c.from_residual.ensures.1 in
    rw (p.1, p.2) (list_fails IsState state_bytes _ _ _ _ _ _ _ c.loop-i-test.true c.loop-i.invariant c.in_err-state.ensures)

pub loop-i-preserved : goal.loop-i-preserved
loop-i-preserved c = list_more IsState state_bytes states_apart _ _ _ _ _ _ _ _ _ c.loop-i-test.true c.in_ok-state.ensures.0 c.in_ok-state.ensures.1 c.in_ok-push.ensures c.loop-i.invariant

pub returns : goal.returns
returns c = ((omega (arith, c.loop-i.invariant.len), c.loop-i.invariant.each), c.loop-i.invariant.spelled)
