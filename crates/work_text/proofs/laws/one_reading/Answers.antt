use Rattle.work_text.proofs.OneText.{reads_one}
use Rattle.work_text.proofs.laws.one_reading.Goals as goal

pub returns : goal.returns
returns c = reads_one (record { program = c.one_program.ensures; first = c.one_fault.ensures; either = c.faulty.ensures; closed = c.checked_programs_are_closed.ensures })
