use Rattle.std.proofs.lemmas.Result.{err_from_is_err_and}
use Rattle.txn_records.proofs.Chains.{behind_done_bid, behind_done_count, done_bid, done_count, done_end, done_values}
use Rattle.txn_records.proofs.reading.done_of.Goals as goal

pub returns-in_err-bid : goal.returns-in_err-bid
returns-in_err-bid c =
    let p = err_from_is_err_and c.from_residual.result c.from_residual.ensures.1 in
    rw (p.1, p.2) (done_bid _ _ c.in_err-bid.ensures)

pub returns-in_err-count : goal.returns-in_err-count
returns-in_err-count c =
    let p = err_from_is_err_and c.from_residual-in_err-count.result c.from_residual-in_err-count.ensures.1 in
    rw (p.1, p.2) (behind_done_bid _ _ _ _ c.in_ok-bid.ensures (done_count _ _ c.in_err-count.ensures))

pub returns-in_err-values : goal.returns-in_err-values
returns-in_err-values c =
    let p = err_from_is_err_and c.from_residual-in_err-values.result c.from_residual-in_err-values.ensures.1 in
    rw (p.1, p.2) (behind_done_bid _ _ _ _ c.in_ok-bid.ensures (behind_done_count _ _ _ _ c.in_ok-count.ensures (done_values _ _ _ c.in_err-values.ensures)))

pub returns-in_err-end_of : goal.returns-in_err-end_of
returns-in_err-end_of c =
    let p = err_from_is_err_and c.from_residual-in_err-end_of.result c.from_residual-in_err-end_of.ensures.1 in
    rw (p.1, p.2) (behind_done_bid _ _ _ _ c.in_ok-bid.ensures (behind_done_count _ _ _ _ c.in_ok-count.ensures (done_end _ _ _ _ _ c.in_ok-values.ensures c.in_err-end_of.ensures)))
