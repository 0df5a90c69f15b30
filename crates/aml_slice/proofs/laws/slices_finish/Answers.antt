use Rattle.aml_check.specs.Checked.{methods_of}
use Rattle.aml_slice.proofs.Finished.{slices_keep, finished_alone}
use Rattle.aml_slice.proofs.laws.slices_finish.Goals as goal

pub returns-clause-keeps : goal.returns-clause-keeps
returns-clause-keeps c = λ count d w is. slices_keep (record { meant = c.known.ensures.meant; allowed = c.known.ensures.allowed; counts = c.known.ensures.counts; blocks = c.known.ensures.blocks; calls = c.known.ensures.calls }) (methods_of c.args.program.now) count d w c.known.ensures.closed is

pub returns-clause-alone : goal.returns-clause-alone
returns-clause-alone c = λ count tid tx w is size. finished_alone (record { meant = c.known.ensures.meant; allowed = c.known.ensures.allowed; counts = c.known.ensures.counts; blocks = c.known.ensures.blocks; calls = c.known.ensures.calls }) (methods_of c.args.program.now) count tid tx w c.known.ensures.closed is size
