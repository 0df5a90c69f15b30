use Rattle.aml_check.specs.Checked.{methods_of}
use Rattle.aml_slice.proofs.SlicedMoves.{slices_well}
use Rattle.aml_slice.proofs.laws.each_slice.Goals as goal

pub returns-clause-moment : goal.returns-clause-moment
returns-clause-moment c = λ count d s is. (slices_well (record { meant = c.known.ensures.meant; allowed = c.known.ensures.allowed; counts = c.known.ensures.counts; blocks = c.known.ensures.blocks; calls = c.known.ensures.calls }) (methods_of c.args.program.now) count d s c.known.ensures.closed is).moment

pub returns-clause-kept : goal.returns-clause-kept
returns-clause-kept c = λ count d s is. (slices_well (record { meant = c.known.ensures.meant; allowed = c.known.ensures.allowed; counts = c.known.ensures.counts; blocks = c.known.ensures.blocks; calls = c.known.ensures.calls }) (methods_of c.args.program.now) count d s c.known.ensures.closed is).kept

pub returns-clause-handed_on : goal.returns-clause-handed_on
returns-clause-handed_on c = λ count d s is. (slices_well (record { meant = c.known.ensures.meant; allowed = c.known.ensures.allowed; counts = c.known.ensures.counts; blocks = c.known.ensures.blocks; calls = c.known.ensures.calls }) (methods_of c.args.program.now) count d s c.known.ensures.closed is).handed_on
