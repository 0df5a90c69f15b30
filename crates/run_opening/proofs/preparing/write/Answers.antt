use Rattle.std.proofs.Common.{sym, subst}
use Rattle.log_opening.specs.declared.refusals.LogsNo.{LogsNo}
use Rattle.run_opening.specs.Writes.{IsNotWritten}
use Rattle.run_opening.proofs.Writing.{may_write, wrote, not_wrote}
use Rattle.run_opening.proofs.preparing.write.Goals as goal

pub append_records-requires-clause-may : goal.append_records-requires-clause-may
append_records-requires-clause-may g c =
    (may_write c.few_may_be_appended.ensures.may c.args.log.now.end c.args.added.now c.requires.records c.requires.one c.requires.low).may

pub returns-in-Ok : goal.returns-in-Ok
returns-in-Ok g c =
    let is = c.in-Ok.ensures in
    wrote c.args.log.now c.append_records.new.log c.args.added.now
    (may_write c.few_may_be_appended.ensures.may c.args.log.now.end c.args.added.now c.requires.records c.requires.one c.requires.low) c.requires.one
    is.appended is.crashes is.ops is.end (λ e. (is.empty e).0) is.grown is.format is.open is.faults

pub returns-in-Err : goal.returns-in-Err
returns-in-Err g c =
    let is = c.append_records.ensures in
    subst (λ (a : LogsNo). IsNotWritten c.args.log.now c.append_records.new.log c.args.added.now a) (sym c.of_append.ensures)
    (not_wrote c.args.log.now c.append_records.new.log c.args.added.now c.in-Err.no c.append_records.result c.in-Err.is
    (may_write c.few_may_be_appended.ensures.may c.args.log.now.end c.args.added.now c.requires.records c.requires.one c.requires.low)
    is.crashes c.in-Err.ensures.ops is.memory is.device is.shut is.empty c.requires.open is.faults)
