use Rattle.std.proofs.lemmas.Result.{err_from_is_err_and}
use Rattle.work_text.proofs.Programs.{program_found, program_fails}
use Rattle.work_text.proofs.program.program.Goals as goal

pub returns-in_err-program_text-in-Ok-clause-reads : goal.returns-in_err-program_text-in-Ok-clause-reads
returns-in_err-program_text-in-Ok-clause-reads c =
    let p = err_from_is_err_and c.from_residual.result c.from_residual.ensures.1 in
    let e = c.in-Ok.ensures.found in
    rw (p.1, p.2) (program_fails _ c.args.before c.in-Ok.text.now _ e.0 _ c.in_err-program_text-in-Ok.field-0.0 e.1 e.2 c.in_err-program_text-in-Ok.ensures)

pub returns-in_ok-program_text-in-Ok-clause-reads : goal.returns-in_ok-program_text-in-Ok-clause-reads
returns-in_ok-program_text-in-Ok-clause-reads c =
    let e = c.in-Ok.ensures.found in
    program_found _ c.args.before c.in-Ok.text.now _ e.0 _ _ e.1 e.2 c.in_ok-program_text-in-Ok.ensures
