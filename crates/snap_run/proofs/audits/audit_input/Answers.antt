use Rattle.std.proofs.Common.{◌<◌, length, rules}
use Rattle.snap_run.proofs.InputLaws.{is_too_long}
use Rattle.snap_run.specs.Audits.{OfInput, audit_fault, audit_input, audit_memory, audit_read_fault}
use Rattle.snap_run.specs.Uses.{reading_of}
use Rattle.trace_audit.specs.AuditNos.{fault_meant}
use Rattle.trace_audit.specs.audit_words.Inputs.{IsFirstFault}
use Rattle.snap_run.proofs.audits.audit_input.Goals as goal

pub returns-in-Err-Fault-clause-answer : goal.returns-in-Err-Fault-clause-answer
returns-in-Err-Fault-clause-answer g c = audit_read_fault (search rules)

pub returns-in-Err-Memory-clause-answer : goal.returns-in-Err-Memory-clause-answer
returns-in-Err-Memory-clause-answer g c = audit_memory

pub returns-then-len-gt-LONGEST_WORK-clause-answer : goal.returns-then-len-gt-LONGEST_WORK-clause-answer
returns-then-len-gt-LONGEST_WORK-clause-answer g c =
    let long : 8388608 < length c.in-Ok.bytes.items = search rules in
    audit_input (is_too_long (reading_of g.I.Source c.args.input.now c.read_input.new.input) c.in-Ok.bytes.items long c.in-Ok.ensures.most c.in-Ok.ensures.moved)

pub returns-clause-answer : goal.returns-clause-answer
returns-clause-answer g c = audit_memory

pub returns-in-Err-Fault-audit-clause-answer : goal.returns-in-Err-Fault-audit-clause-answer
returns-in-Err-Fault-audit-clause-answer g c =
    let first : OfInput (reading_of g.I.Source c.args.input.now c.read_input.new.input) (λ bytes. IsFirstFault bytes (fault_meant c.in-Err-Fault-audit.fault)) = search rules in
    audit_fault c.in-Err-Fault-audit.fault first
