use Rattle.aml_check.specs.Checked.{methods_of}
use Rattle.aml_slice.proofs.SlicesAddUp.{add_up}
use Rattle.aml_slice.proofs.laws.slices_add_up.Goals as goal

pub returns : goal.returns
returns c = add_up (methods_of c.args._program.now)
