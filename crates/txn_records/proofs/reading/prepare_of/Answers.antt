use Rattle.std.proofs.lemmas.Result.{err_from_is_err_and}
use Rattle.txn_records.proofs.Chains.{behind_complete_actor, behind_complete_bid, complete_actor, complete_bid, complete_end, complete_state}
use Rattle.txn_records.proofs.reading.prepare_of.Goals as goal

pub returns-in_err-tid : goal.returns-in_err-tid
returns-in_err-tid c =
    let p = err_from_is_err_and c.from_residual.result c.from_residual.ensures.1 in
    rw (p.1, p.2) (complete_bid _ _ c.in_err-tid.ensures)

pub returns-in_err-actor : goal.returns-in_err-actor
returns-in_err-actor c =
    let p = err_from_is_err_and c.from_residual-in_err-actor.result c.from_residual-in_err-actor.ensures.1 in
    rw (p.1, p.2) (behind_complete_bid _ _ _ _ c.in_ok-tid.ensures (complete_actor _ _ c.in_err-actor.ensures))

pub returns-in_err-state : goal.returns-in_err-state
returns-in_err-state c =
    let p = err_from_is_err_and c.from_residual-in_err-state.result c.from_residual-in_err-state.ensures.1 in
    rw (p.1, p.2) (behind_complete_bid _ _ _ _ c.in_ok-tid.ensures (behind_complete_actor _ _ _ _ c.in_ok-actor.ensures (complete_state 0 _ _ c.in_err-state.ensures)))

pub returns-in_err-end_of : goal.returns-in_err-end_of
returns-in_err-end_of c =
    let p = err_from_is_err_and c.from_residual-in_err-end_of.result c.from_residual-in_err-end_of.ensures.1 in
    rw (p.1, p.2) (behind_complete_bid _ _ _ _ c.in_ok-tid.ensures (behind_complete_actor _ _ _ _ c.in_ok-actor.ensures (complete_end 0 _ _ _ _ c.in_ok-state.ensures c.in_err-end_of.ensures)))
