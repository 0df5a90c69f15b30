use Rattle.run_recovery.proofs.BeginningsLeft.{begins_again}
use Rattle.run_recovery.proofs.laws.beginnings_are_recovered.Goals as goal

pub returns : goal.returns
returns c =
    begins_again
    (record {
      log = record {
        adds = c.opening_is_safe.ensures.adds;
        gives = c.opening_is_safe.ensures.gives;
        keeps = c.opening_is_safe.ensures.keeps;
        clears = c.clear_is_safe.ensures.keeps;
        list = c.one_list.ensures;
        found = c.logs_are_lists.ensures.placed;
      };
      sets = record { one = c.one_use.ensures; tell = c.fronts_tell.ensures; fronts = c.fronts_of_records.ensures; clear = c.clearing_keeps.ensures; begin = c.begun_is_set.ensures };
      lists = c.one_list_of_records.ensures;
    })
    (record { keeps = c.groups_are_whole.ensures.keeps; moment = c.groups_are_whole.ensures.recent; begins = c.beginning_is_safe.ensures.recent }) c.begins_again.ensures.unwritten c.begins_again.ensures.written
