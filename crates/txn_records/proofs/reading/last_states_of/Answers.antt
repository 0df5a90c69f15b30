use Rattle.std.proofs.lemmas.Result.{err_from_is_err_and}
use Rattle.txn_records.proofs.Chains.{behind_states_count, states_count, states_end, states_listed}
use Rattle.txn_records.proofs.reading.last_states_of.Goals as goal

pub returns-in_err-count : goal.returns-in_err-count
returns-in_err-count c =
    let p = err_from_is_err_and c.from_residual.result c.from_residual.ensures.1 in
    rw (p.1, p.2) (states_count _ _ c.in_err-count.ensures)

pub returns-in_err-states : goal.returns-in_err-states
returns-in_err-states c =
    let p = err_from_is_err_and c.from_residual-in_err-states.result c.from_residual-in_err-states.ensures.1 in
    rw (p.1, p.2) (behind_states_count _ _ _ _ c.in_ok-count.ensures (states_listed _ _ _ c.in_err-states.ensures))

pub returns-in_err-end_of : goal.returns-in_err-end_of
returns-in_err-end_of c =
    let p = err_from_is_err_and c.from_residual-in_err-end_of.result c.from_residual-in_err-end_of.ensures.1 in
    rw (p.1, p.2) (behind_states_count _ _ _ _ c.in_ok-count.ensures (states_end _ _ _ _ _ c.in_ok-states.ensures c.in_err-end_of.ensures))
