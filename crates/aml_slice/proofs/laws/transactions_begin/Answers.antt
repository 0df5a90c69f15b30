use Rattle.aml_check.specs.Checked.{methods_of}
use Rattle.aml_slice.proofs.Finished.{started_begins}
use Rattle.aml_slice.proofs.laws.transactions_begin.Goals as goal

pub returns : goal.returns
returns c = λ count tid tx is. started_begins (methods_of c.args.program.now) count tid tx c.known.ensures.closed is
