use Rattle.std.proofs.Common.{rules, subst}
use Rattle.std.proofs.KnownBytes.{Keeps-refl}
use Rattle.run_work.specs.Writings.{Writing, Writes, WritesFront, writing_of}
use Rattle.snap_run.specs.Audits.{audit_done, audit_out_fault, audit_refused}
use Rattle.snap_run.proofs.audits.print_audit.Goals as goal

pub returns-in-Err-clause-answer : goal.returns-in-Err-clause-answer
returns-in-Err-clause-answer g c = audit_refused c.in-Err.status c.in-Err.ensures.answer (Keeps-refl _)

pub returns-then-is_err-clause-answer : goal.returns-then-is_err-clause-answer
returns-then-is_err-clause-answer g c =
    let out : Writing = writing_of g.O.Sink c.args.out.now c.write_all.new.out in
    let front : WritesFront out c.as_bytes.result.now = search rules in
    audit_out_fault c.in-Ok.ensures.answer (subst (λ bytes. WritesFront out bytes) c.as_bytes.ensures.value front) (search rules)

pub returns-clause-answer : goal.returns-clause-answer
returns-clause-answer g c =
    let out : Writing = writing_of g.O.Sink c.args.out.now c.write_all.new.out in
    let whole : Writes out c.as_bytes.result.now = search rules in
    audit_done c.in-Ok.ensures.answer (subst (λ bytes. Writes out bytes) c.as_bytes.ensures.value whole)
