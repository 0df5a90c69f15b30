use Rattle.input_laws.proofs.OneFault.{same_fault}
use Rattle.input_laws.proofs.once.one_first_fault.Goals as goal

pub returns : goal.returns
returns c =
    same_fault
    (record {
      parts = c.parts_are_one.ensures.once;
      lack = c.parts_are_one.ensures.apart;
      run = c.one_run.ensures;
      work_fault = c.one_first_fault.ensures;
      faulty = c.fault_or_work.ensures;
      first_line = c.one_first_line.ensures;
      traced = c.trace_or_line.ensures;
      answer = c.one_answer.ensures.once;
    })
