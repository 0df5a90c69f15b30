use Rattle.run_recovery.proofs.CallsKept.{calls_keep}
use Rattle.run_recovery.proofs.laws.calls_between_runs_lose_nothing.Goals as goal

pub returns : goal.returns
returns c = calls_keep (record {
  sets = record { one = c.one_use.ensures; tell = c.fronts_tell.ensures; fronts = c.fronts_of_records.ensures; clear = c.clearing_keeps.ensures; begin = c.begun_is_set.ensures };
  lists = c.one_list_of_records.ensures;
  fold = c.one_fold.ensures;
  written = c.begun_lists_fold.ensures;
  begun = c.folds_are_begun.ensures;
})
