use Rattle.input_laws.proofs.SerialInputs.{inputs_as_meant}
use Rattle.input_laws.proofs.serial.inputs_tell_serial_runs.Goals as goal

pub returns : goal.returns
returns c = inputs_as_meant c.parts_are_one.ensures.once c.one_work.ensures c.one_report.ensures c.papers_tell_serial_runs.ensures
