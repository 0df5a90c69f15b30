use Rattle.std.proofs.Common.{◌≤◌, ap, sym, length, rules, subst, Err}
use Rattle.std.specs.Io.KnownBytes.{Consumes, IsAtEnd}
use Rattle.snap_work.specs.Works.{work_of}
use Rattle.snap_run.specs.Answers.{input_refused, input_memory, input_read_fault}
use Rattle.snap_run.specs.Uses.{Reading, reading_of}
use Rattle.snap_run.proofs.InputLaws.{reads_enough, fault_of_input, of_text}
use Rattle.snap_run.proofs.works.read_work.Goals as goal

pub returns-in-Ok-parse_work-clause-limits : goal.returns-in-Ok-parse_work-clause-limits
returns-in-Ok-parse_work-clause-limits g c = c.transactions_may_run.ensures _ _ c.in-Ok-parse_work.ensures.found

pub returns-in-Ok-parse_work-clause-answer : goal.returns-in-Ok-parse_work-clause-answer
returns-in-Ok-parse_work-clause-answer g c =
    let r : Reading = reading_of g.I.Source c.args.input.now c.read_input.new.input in
    of_text r c.as_slice.result.now (work_of c.in-Ok-parse_work.work) c.in-Ok-parse_work.ensures.found (c.a_work_is_short.ensures _ _ c.in-Ok-parse_work.ensures.found)
    (subst (Consumes (g.I.Source.left c.args.input.now) (g.I.Source.left c.read_input.new.input)) (sym c.as_slice.ensures.value) c.in-Ok.ensures.moved)
    (subst (λ l. length l ≤ 8388608 → IsAtEnd (g.I.Source.left c.read_input.new.input)) (sym c.as_slice.ensures.value) c.in-Ok.ensures.whole)

pub returns-in-Err-Fault-parse_work-clause-answer : goal.returns-in-Err-Fault-parse_work-clause-answer
returns-in-Err-Fault-parse_work-clause-answer g c =
    let r : Reading = reading_of g.I.Source c.args.input.now c.read_input.new.input in
    let is = ap Err c.in-Err-Fault-parse_work.field-0-is in
    let moved = subst (Consumes (g.I.Source.left c.args.input.now) (g.I.Source.left c.read_input.new.input)) (sym c.as_slice.ensures.value) c.in-Ok.ensures.moved in
    let whole = subst (λ l. length l ≤ 8388608 → IsAtEnd (g.I.Source.left c.read_input.new.input)) (sym c.as_slice.ensures.value) c.in-Ok.ensures.whole in
    let fault = c.in-Err-Fault-parse_work.ensures.fault _ is in
    input_refused _ _ (reads_enough r c.as_slice.result.now _ moved whole (subst (λ l. length l ≤ 8388609) (sym c.as_slice.ensures.value) c.in-Ok.ensures.most) fault)
    (fault_of_input _ _ c.as_slice.result.now _ moved whole fault)

pub returns-in-Err-Fault-clause-answer : goal.returns-in-Err-Fault-clause-answer
returns-in-Err-Fault-clause-answer g c = input_read_fault (search rules)

pub returns-in-Err-Memory-clause-answer : goal.returns-in-Err-Memory-clause-answer
returns-in-Err-Memory-clause-answer g c = input_memory

pub returns-clause-answer : goal.returns-clause-answer
returns-clause-answer g c = input_memory
