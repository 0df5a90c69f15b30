use Rattle.std.proofs.lemmas.Result.{err_from_is_err_and}
use Rattle.txn_records.proofs.Chains.{behind_checkpoint_acts, behind_checkpoint_batches, behind_checkpoint_bid, behind_checkpoint_c, behind_checkpoint_generation, behind_checkpoint_tid, checkpoint_acts, checkpoint_batches, checkpoint_bid, checkpoint_c, checkpoint_generation, checkpoint_tid}
use Rattle.txn_records.proofs.reading.checkpoint_of.Goals as goal

pub returns-in_err-generation : goal.returns-in_err-generation
returns-in_err-generation c =
    let p = err_from_is_err_and c.from_residual.result c.from_residual.ensures.1 in
    rw (p.1, p.2) (checkpoint_generation _ _ c.in_err-generation.ensures)

pub returns-in_err-next_tid : goal.returns-in_err-next_tid
returns-in_err-next_tid c =
    let p = err_from_is_err_and c.from_residual-in_err-next_tid.result c.from_residual-in_err-next_tid.ensures.1 in
    rw (p.1, p.2) (behind_checkpoint_generation _ _ _ _ c.in_ok-generation.ensures (checkpoint_tid _ _ c.in_err-next_tid.ensures))

pub returns-in_err-next_bid : goal.returns-in_err-next_bid
returns-in_err-next_bid c =
    let p = err_from_is_err_and c.from_residual-in_err-next_bid.result c.from_residual-in_err-next_bid.ensures.1 in
    rw (p.1, p.2) (behind_checkpoint_generation _ _ _ _ c.in_ok-generation.ensures (behind_checkpoint_tid _ _ _ _ c.in_ok-next_tid.ensures (checkpoint_bid _ _ c.in_err-next_bid.ensures)))

pub returns-in_err-next_c : goal.returns-in_err-next_c
returns-in_err-next_c c =
    let p = err_from_is_err_and c.from_residual-in_err-next_c.result c.from_residual-in_err-next_c.ensures.1 in
    rw (p.1, p.2) (behind_checkpoint_generation _ _ _ _ c.in_ok-generation.ensures (behind_checkpoint_tid _ _ _ _ c.in_ok-next_tid.ensures (behind_checkpoint_bid _ _ _ _ c.in_ok-next_bid.ensures (checkpoint_c _ _ c.in_err-next_c.ensures))))

pub returns-in_err-batches : goal.returns-in_err-batches
returns-in_err-batches c =
    let p = err_from_is_err_and c.from_residual-in_err-batches.result c.from_residual-in_err-batches.ensures.1 in
    rw (p.1, p.2) (behind_checkpoint_generation _ _ _ _ c.in_ok-generation.ensures (behind_checkpoint_tid _ _ _ _ c.in_ok-next_tid.ensures (behind_checkpoint_bid _ _ _ _ c.in_ok-next_bid.ensures (behind_checkpoint_c _ _ _ _ c.in_ok-next_c.ensures (checkpoint_batches _ _ c.in_err-batches.ensures)))))

pub returns-in_err-acts : goal.returns-in_err-acts
returns-in_err-acts c =
    let p = err_from_is_err_and c.from_residual-in_err-acts.result c.from_residual-in_err-acts.ensures.1 in
    rw (p.1, p.2) (behind_checkpoint_generation _ _ _ _ c.in_ok-generation.ensures (behind_checkpoint_tid _ _ _ _ c.in_ok-next_tid.ensures (behind_checkpoint_bid _ _ _ _ c.in_ok-next_bid.ensures (behind_checkpoint_c _ _ _ _ c.in_ok-next_c.ensures (behind_checkpoint_batches _ _ _ _ c.in_ok-batches.ensures (checkpoint_acts _ _ c.in_err-acts.ensures))))))

pub returns-in_err-states : goal.returns-in_err-states
returns-in_err-states c =
    let p = err_from_is_err_and c.from_residual-in_err-states.result c.from_residual-in_err-states.ensures.1 in
    rw (p.1, p.2) (behind_checkpoint_generation _ _ _ _ c.in_ok-generation.ensures (behind_checkpoint_tid _ _ _ _ c.in_ok-next_tid.ensures (behind_checkpoint_bid _ _ _ _ c.in_ok-next_bid.ensures (behind_checkpoint_c _ _ _ _ c.in_ok-next_c.ensures (behind_checkpoint_batches _ _ _ _ c.in_ok-batches.ensures (behind_checkpoint_acts _ _ _ _ c.in_ok-acts.ensures c.in_err-states.ensures))))))
