use Rattle.std.proofs.lemmas.Result.{err_from_is_err_and}
use Rattle.txn_records.proofs.Chains.{behind_genesis_logs, genesis_logs}
use Rattle.txn_records.proofs.reading.genesis_of.Goals as goal

pub returns-in_err-logs : goal.returns-in_err-logs
returns-in_err-logs c =
    let p = err_from_is_err_and c.from_residual.result c.from_residual.ensures.1 in
    rw (p.1, p.2) (genesis_logs _ _ c.in_err-logs.ensures)

pub returns-in_err-states : goal.returns-in_err-states
returns-in_err-states c =
    let p = err_from_is_err_and c.from_residual-in_err-states.result c.from_residual-in_err-states.ensures.1 in
    rw (p.1, p.2) (behind_genesis_logs _ _ _ _ c.in_ok-logs.ensures c.in_err-states.ensures)
