use Rattle.aml_check.specs.Checked.{methods_of}
use Rattle.machine_laws.proofs.Executions.{alone_so}
use Rattle.machine_laws.proofs.code.alone_as_meant.Goals as goal

pub returns : goal.returns
returns c count w tx size is = alone_so (methods_of c.args.program.now) count w tx (c.slices_finish.ensures.alone count) size is
