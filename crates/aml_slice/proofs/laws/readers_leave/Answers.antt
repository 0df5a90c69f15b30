use Rattle.aml_check.specs.Checked.{methods_of}
use Rattle.aml_slice.proofs.ReadersLeave.{end_reads, started_reads}
use Rattle.aml_slice.proofs.laws.readers_leave.Goals as goal

pub returns-clause-begins : goal.returns-clause-begins
returns-clause-begins c = started_reads (methods_of c.args.program.now)

pub returns-clause-state : goal.returns-clause-state
returns-clause-state c = λ count d s all. (end_reads c.reading_leaves.ensures (methods_of c.args.program.now) count d s c.known.ensures.closed all).state

pub returns-clause-handed_on : goal.returns-clause-handed_on
returns-clause-handed_on c = λ count d s all. (end_reads c.reading_leaves.ensures (methods_of c.args.program.now) count d s c.known.ensures.closed all).next
