use Rattle.input_laws.proofs.OneFault.{in_order_apart}
use Rattle.input_laws.proofs.once.an_input_in_order_has_no_fault.Goals as goal

pub returns : goal.returns
returns c = in_order_apart c.parts_are_one.ensures.once c.parts_are_one.ensures.apart c.one_run.ensures c.fault_or_work.ensures c.trace_or_line.ensures c.one_answer.ensures.apart
