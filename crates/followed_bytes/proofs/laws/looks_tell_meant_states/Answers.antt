use Rattle.aml_check.specs.Checked.{methods_of}
use Rattle.followed_bytes.proofs.Looks.{all_go_on, all_tell}
use Rattle.followed_bytes.proofs.laws.looks_tell_meant_states.Goals as goal

pub returns-clause-tell : goal.returns-clause-tell
returns-clause-tell c = all_tell (methods_of c.args.program.now) (record {
  reads = c.readings_are_findings.ensures;
  of_program = record { facts = c.texts_have_the_facts.ensures; sets = c.sets_are_as_meant.ensures };
  in_order = c.recovered_transactions_are_in_order.ensures;
  tell = c.followers_tell_serial_states.ensures;
  go_on = c.followers_are_not_refused.ensures;
  one_way = c.runs_go_one_way.ensures;
  logs = c.logs_stay.ensures;
  list = c.one_list_of_records.ensures;
})

pub returns-clause-go_on : goal.returns-clause-go_on
returns-clause-go_on c = all_go_on (methods_of c.args.program.now) (record {
  reads = c.readings_are_findings.ensures;
  of_program = record { facts = c.texts_have_the_facts.ensures; sets = c.sets_are_as_meant.ensures };
  in_order = c.recovered_transactions_are_in_order.ensures;
  tell = c.followers_tell_serial_states.ensures;
  go_on = c.followers_are_not_refused.ensures;
  one_way = c.runs_go_one_way.ensures;
  logs = c.logs_stay.ensures;
  list = c.one_list_of_records.ensures;
})
