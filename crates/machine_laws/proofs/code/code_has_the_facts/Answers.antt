use Rattle.aml_check.specs.Checked.{methods_of}
use Rattle.machine_laws.proofs.MachineFacts.{machine_facts}
use Rattle.machine_laws.proofs.code.code_has_the_facts.Goals as goal

pub returns : goal.returns
returns c count =
    machine_facts (methods_of c.args.program.now) count (record {
      begins = c.transactions_begin.ensures count;
      hands_on = c.each_slice.ensures.handed_on count;
      begins_reading = c.readers_leave.ensures.begins;
      leaves = c.readers_leave.ensures.state count;
      hands_on_reading = c.readers_leave.ensures.handed_on count;
      keeps = c.slices_finish.ensures.keeps count;
    })
