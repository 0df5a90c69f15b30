use Rattle.std.proofs.lemmas.Result.{err_from_is_err_and}
use Rattle.txn_records.proofs.Chains.{behind_info_actors, behind_info_bid, behind_info_count, behind_info_count_2, info_actors, info_bid, info_count, info_count_2, info_end, info_tids}
use Rattle.txn_records.proofs.reading.info_of.Goals as goal

pub returns-in_err-bid : goal.returns-in_err-bid
returns-in_err-bid c =
    let p = err_from_is_err_and c.from_residual.result c.from_residual.ensures.1 in
    rw (p.1, p.2) (info_bid _ _ c.in_err-bid.ensures)

pub returns-in_err-count : goal.returns-in_err-count
returns-in_err-count c =
    let p = err_from_is_err_and c.from_residual-in_err-count.result c.from_residual-in_err-count.ensures.1 in
    rw (p.1, p.2) (behind_info_bid _ _ _ _ c.in_ok-bid.ensures (info_count _ _ c.in_err-count.ensures))

pub returns-in_err-actors : goal.returns-in_err-actors
returns-in_err-actors c =
    let p = err_from_is_err_and c.from_residual-in_err-actors.result c.from_residual-in_err-actors.ensures.1 in
    rw (p.1, p.2) (behind_info_bid _ _ _ _ c.in_ok-bid.ensures (behind_info_count _ _ _ _ c.in_ok-count.ensures (info_actors _ _ _ c.in_err-actors.ensures)))

pub returns-in_err-count-2 : goal.returns-in_err-count-2
returns-in_err-count-2 c =
    let p = err_from_is_err_and c.from_residual-in_err-count-2.result c.from_residual-in_err-count-2.ensures.1 in
    rw (p.1, p.2) (behind_info_bid _ _ _ _ c.in_ok-bid.ensures (behind_info_count _ _ _ _ c.in_ok-count.ensures (behind_info_actors _ _ _ _ _ c.in_ok-actors.ensures (info_count_2 _ _ c.in_err-count-2.ensures))))

pub returns-in_err-tids : goal.returns-in_err-tids
returns-in_err-tids c =
    let p = err_from_is_err_and c.from_residual-in_err-tids.result c.from_residual-in_err-tids.ensures.1 in
    rw (p.1, p.2) (behind_info_bid _ _ _ _ c.in_ok-bid.ensures (behind_info_count _ _ _ _ c.in_ok-count.ensures (behind_info_actors _ _ _ _ _ c.in_ok-actors.ensures (behind_info_count_2 _ _ _ _ c.in_ok-count-2.ensures (info_tids _ _ _ c.in_err-tids.ensures)))))

pub returns-in_err-end_of : goal.returns-in_err-end_of
returns-in_err-end_of c =
    let p = err_from_is_err_and c.from_residual-in_err-end_of.result c.from_residual-in_err-end_of.ensures.1 in
    rw (p.1, p.2) (behind_info_bid _ _ _ _ c.in_ok-bid.ensures (behind_info_count _ _ _ _ c.in_ok-count.ensures (behind_info_actors _ _ _ _ _ c.in_ok-actors.ensures (behind_info_count_2 _ _ _ _ c.in_ok-count-2.ensures (info_end _ _ _ _ _ c.in_ok-tids.ensures c.in_err-end_of.ensures)))))
