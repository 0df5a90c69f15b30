use Rattle.std.proofs.lemmas.Result.{err_from_is_err_and}
use Rattle.txn_records.proofs.Chains.{act_actors, act_count, act_done_batch, act_done_number, act_done_tid, act_end, act_value, behind_act_count, behind_act_done_batch, behind_act_done_number, behind_act_done_tid, behind_act_value}
use Rattle.txn_records.proofs.reading.act_done_of.Goals as goal

pub returns-in_err-tid : goal.returns-in_err-tid
returns-in_err-tid c =
    let p = err_from_is_err_and c.from_residual.result c.from_residual.ensures.1 in
    rw (p.1, p.2) (act_done_tid _ _ c.in_err-tid.ensures)

pub returns-in_err-m : goal.returns-in_err-m
returns-in_err-m c =
    let p = err_from_is_err_and c.from_residual-in_err-m.result c.from_residual-in_err-m.ensures.1 in
    rw (p.1, p.2) (behind_act_done_tid _ _ _ _ c.in_ok-tid.ensures (act_done_batch _ _ c.in_err-m.ensures))

pub returns-in_err-c : goal.returns-in_err-c
returns-in_err-c c =
    let p = err_from_is_err_and c.from_residual-in_err-c.result c.from_residual-in_err-c.ensures.1 in
    rw (p.1, p.2) (behind_act_done_tid _ _ _ _ c.in_ok-tid.ensures (behind_act_done_batch _ _ _ _ c.in_ok-m.ensures (act_done_number _ _ c.in_err-c.ensures)))

pub returns-in_err-value : goal.returns-in_err-value
returns-in_err-value c =
    let p = err_from_is_err_and c.from_residual-in_err-value.result c.from_residual-in_err-value.ensures.1 in
    rw (p.1, p.2) (behind_act_done_tid _ _ _ _ c.in_ok-tid.ensures (behind_act_done_batch _ _ _ _ c.in_ok-m.ensures (behind_act_done_number _ _ _ _ c.in_ok-c.ensures (act_value _ _ c.in_err-value.ensures))))

pub returns-in_err-count : goal.returns-in_err-count
returns-in_err-count c =
    let p = err_from_is_err_and c.from_residual-in_err-count.result c.from_residual-in_err-count.ensures.1 in
    rw (p.1, p.2) (behind_act_done_tid _ _ _ _ c.in_ok-tid.ensures (behind_act_done_batch _ _ _ _ c.in_ok-m.ensures (behind_act_done_number _ _ _ _ c.in_ok-c.ensures (behind_act_value _ _ _ _ c.in_ok-value.ensures (act_count _ _ c.in_err-count.ensures)))))

pub returns-in_err-actors : goal.returns-in_err-actors
returns-in_err-actors c =
    let p = err_from_is_err_and c.from_residual-in_err-actors.result c.from_residual-in_err-actors.ensures.1 in
    rw (p.1, p.2) (behind_act_done_tid _ _ _ _ c.in_ok-tid.ensures (behind_act_done_batch _ _ _ _ c.in_ok-m.ensures (behind_act_done_number _ _ _ _ c.in_ok-c.ensures (behind_act_value _ _ _ _ c.in_ok-value.ensures (behind_act_count _ _ _ _ c.in_ok-count.ensures (act_actors _ _ _ c.in_err-actors.ensures))))))

pub returns-in_err-end_of : goal.returns-in_err-end_of
returns-in_err-end_of c =
    let p = err_from_is_err_and c.from_residual-in_err-end_of.result c.from_residual-in_err-end_of.ensures.1 in
    rw (p.1, p.2) (behind_act_done_tid _ _ _ _ c.in_ok-tid.ensures (behind_act_done_batch _ _ _ _ c.in_ok-m.ensures (behind_act_done_number _ _ _ _ c.in_ok-c.ensures (behind_act_value _ _ _ _ c.in_ok-value.ensures (behind_act_count _ _ _ _ c.in_ok-count.ensures (act_end _ _ _ _ _ c.in_ok-actors.ensures c.in_err-end_of.ensures))))))
