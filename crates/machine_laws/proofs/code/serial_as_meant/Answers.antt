use Rattle.aml_check.specs.Checked.{methods_of}
use Rattle.machine_laws.proofs.Executions.{serial_so}
use Rattle.machine_laws.proofs.code.serial_as_meant.Goals as goal

pub returns : goal.returns
returns c count w txs size all = serial_so (methods_of c.args.program.now) count w txs (c.slices_finish.ensures.alone count) size all
