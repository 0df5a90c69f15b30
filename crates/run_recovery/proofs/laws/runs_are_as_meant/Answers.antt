use Rattle.aml_slice.specs.aml_check.Checked.{methods_of}
use Rattle.machine_laws.specs.Meant.{CommittedAsMeant, VerdictsAsMeant}
use Rattle.machine_laws.specs.protocol_records.AsTold.{ToldStands}
use Rattle.machine_laws.specs.protocol_theorems.Left.{RunsEnd}
use Rattle.machine_laws.specs.protocol_theorems.Order.{OrderHolds}
use Rattle.machine_laws.specs.protocol_theorems.Quiet.{AnsweredWhenQuiet}
use Rattle.machine_laws.specs.protocol_theorems.Sets.{NumbersStand}
use Rattle.machine_laws.specs.protocol_verdicts.Evidence.{VerdictsStand}
use Rattle.machine_laws.specs.protocol_verdicts.EvidenceSerial.{VerdictsTell}
use Rattle.told_codes.specs.Meant.{CodesAsMeant}
use Rattle.run_recovery.proofs.RunsRecovered.{after_run, of_run}
use Rattle.run_recovery.proofs.laws.runs_are_as_meant.Goals as goal

pub returns-clause-committed : goal.returns-clause-committed
returns-clause-committed c = after_run (CommittedAsMeant (methods_of c.args.program.now)) (methods_of c.args.program.now) c.committed_transactions_are_as_meant.ensures

pub returns-clause-told : goal.returns-clause-told
returns-clause-told c = of_run (VerdictsAsMeant (methods_of c.args.program.now)) (methods_of c.args.program.now) c.verdicts_are_as_meant.ensures

pub returns-clause-stopped_codes : goal.returns-clause-stopped_codes
returns-clause-stopped_codes c = of_run (CodesAsMeant (methods_of c.args.program.now)) (methods_of c.args.program.now) c.told_codes_are_as_meant.ensures

pub returns-clause-evidence : goal.returns-clause-evidence
returns-clause-evidence c = of_run VerdictsStand (methods_of c.args.program.now) c.verdicts_have_evidence.ensures

pub returns-clause-answered : goal.returns-clause-answered
returns-clause-answered c = after_run AnsweredWhenQuiet (methods_of c.args.program.now) c.runs_that_cannot_go_on_have_answered.ensures

pub returns-clause-order : goal.returns-clause-order
returns-clause-order c = after_run OrderHolds (methods_of c.args.program.now) c.committed_transactions_are_in_order.ensures

pub returns-clause-codes : goal.returns-clause-codes
returns-clause-codes c = of_run VerdictsTell (methods_of c.args.program.now) c.verdicts_tell_of_serial_runs.ensures

pub returns-clause-numbers : goal.returns-clause-numbers
returns-clause-numbers c = after_run NumbersStand (methods_of c.args.program.now) c.numbers_are_the_ends_of_sets.ensures

pub returns-clause-ends : goal.returns-clause-ends
returns-clause-ends c = of_run RunsEnd (methods_of c.args.program.now) c.every_run_ends.ensures

pub returns-clause-sure : goal.returns-clause-sure
returns-clause-sure c = after_run ToldStands (methods_of c.args.program.now) c.told_transactions_are_in_order.ensures
