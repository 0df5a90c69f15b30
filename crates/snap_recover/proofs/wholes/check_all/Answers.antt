use Rattle.std.proofs.Common.{subst, sym}
use Rattle.std.proofs.lemmas.Result.{err_from_is_err_and}
use Rattle.snap_recover.specs.Passes.{IsFirstLackOf}
use Rattle.snap_recover.proofs.Checking.{batch_lack, all_whole_or_lack}
use Rattle.snap_recover.proofs.wholes.check_all.Goals as goal

pub returns-in_err-check_kind : goal.returns-in_err-check_kind
returns-in_err-check_kind c =
    let p = err_from_is_err_and c.from_residual.result c.from_residual.ensures.1 in
    rw p.1 (subst (IsFirstLackOf c.args.logs.now) (sym p.2) (batch_lack c.args.logs.now c.in_err-check_kind.field-0.0 c.in_err-check_kind.ensures))

pub returns : goal.returns
returns c = all_whole_or_lack c.args.logs.now c.check_kind-2.result c.in_ok-check_kind.ensures c.check_kind-2.ensures
