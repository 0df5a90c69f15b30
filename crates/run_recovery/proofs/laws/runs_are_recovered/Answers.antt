use Rattle.aml_slice.specs.aml_check.Checked.{methods_of}
use Rattle.run_recovery.proofs.RunsRecovered.{recovers}
use Rattle.run_recovery.proofs.laws.runs_are_recovered.Goals as goal

pub returns : goal.returns
returns c = recovers (methods_of c.args.program.now) (record {
  members = c.logs_fold_to_the_members.ensures;
  meant = c.logs_recover_as_meant.ensures;
  in_order = c.recovered_transactions_are_in_order.ensures;
  moment = c.groups_are_whole.ensures.moment;
  recent = c.groups_are_whole.ensures.recent;
  durable = c.groups_grow.ensures.durable;
  four = record {
    log = record {
      adds = c.opening_is_safe.ensures.adds;
      gives = c.opening_is_safe.ensures.gives;
      keeps = c.opening_is_safe.ensures.keeps;
      clears = c.clear_is_safe.ensures.keeps;
      list = c.one_list.ensures;
      found = c.logs_are_lists.ensures.placed;
    };
    sets = record { one = c.one_use.ensures; tell = c.fronts_tell.ensures; fronts = c.fronts_of_records.ensures; clear = c.clearing_keeps.ensures; begin = c.begun_is_set.ensures };
    lists = c.one_list_of_records.ensures;
  };
  stays = c.used_stays.ensures;
})
