use Rattle.aml_check.specs.Checked.{methods_of}
use Rattle.aml_slice.proofs.OneEnd.{one_end, one_state}
use Rattle.aml_slice.proofs.laws.one_moment.Goals as goal

pub returns-clause-state : goal.returns-clause-state
returns-clause-state c = one_state (methods_of c.args._program.now)

pub returns-clause-end : goal.returns-clause-end
returns-clause-end c = one_end (methods_of c.args._program.now)
