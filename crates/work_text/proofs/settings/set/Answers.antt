use Rattle.std.proofs.Common.{refl}
use Rattle.std.specs.Prelude.{Ok}
use Rattle.std.proofs.lemmas.Result.{err_from_is_err_and}
use Rattle.work_text.proofs.Steps.{stops}
use Rattle.work_text.proofs.settings.set.Goals as goal

pub returns-in_err-setting-in-Ok-clause-reads : goal.returns-in_err-setting-in-Ok-clause-reads
returns-in_err-setting-in-Ok-clause-reads c =
    let p = err_from_is_err_and c.from_residual.result c.from_residual.ensures.1 in
    rw (p.1, p.2, c.in-Ok.ensures.found) (stops _ _ c.in_err-setting-in-Ok.field-0.0 c.in_err-setting-in-Ok.ensures.reads)

pub returns-in_ok-setting-in-Ok-clause-reads : goal.returns-in_ok-setting-in-Ok-clause-reads
returns-in_ok-setting-in-Ok-clause-reads c = rw c.in-Ok.ensures.found (Ok c.in_ok-setting-in-Ok.field-0, c.in_ok-setting-in-Ok.ensures.reads, refl)
