use Rattle.std.proofs.lemmas.Result.{err_from_is_err_and}
use Rattle.txn_records.proofs.Chains.{commit_bid, commit_end}
use Rattle.txn_records.proofs.reading.commit_of.Goals as goal

pub returns-in_err-bid : goal.returns-in_err-bid
returns-in_err-bid c =
    let p = err_from_is_err_and c.from_residual.result c.from_residual.ensures.1 in
    rw (p.1, p.2) (commit_bid _ _ c.in_err-bid.ensures)

pub returns-in_err-end_of : goal.returns-in_err-end_of
returns-in_err-end_of c =
    let p = err_from_is_err_and c.from_residual-in_err-end_of.result c.from_residual-in_err-end_of.ensures.1 in
    rw (p.1, p.2) (commit_end _ _ _ _ c.in_ok-bid.ensures c.in_err-end_of.ensures)
