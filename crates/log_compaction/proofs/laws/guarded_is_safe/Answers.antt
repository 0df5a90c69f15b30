use Rattle.log_compaction.proofs.Recent.{guarded}
use Rattle.log_compaction.proofs.laws.guarded_is_safe.Goals as goal

pub returns : goal.returns
returns c = guarded (record {
  fits = c.compaction_fits.ensures;
  crashed = c.crashed_compaction_folds.ensures;
  fronts = c.fronts_of_records.ensures;
  tell = c.fronts_tell.ensures;
  settles = c.images_of_settled.ensures;
  lists = c.logs_are_lists.ensures.at;
  fold = c.one_fold.ensures;
  list = c.one_list.ensures;
  records = c.one_list_of_records.ensures;
  use_is = c.one_use.ensures;
  opening_adds = c.opening_is_safe.ensures.adds;
  opening_keeps = c.opening_is_safe.ensures.keeps;
  refusal_adds = c.opening_is_safe.ensures.refused;
}) (record {
  stand = record {
    settles = c.images_of_settled.ensures;
    lists = c.logs_are_lists.ensures.at;
    clears = c.clear_is_safe.ensures.gives;
    clear_keeps = c.clear_is_safe.ensures.keeps;
    upgrades = c.upgrade_is_safe.ensures.gives;
    upgrade_keeps = c.upgrade_is_safe.ensures.keeps;
    appends = c.append_is_whole.ensures.gives;
    append_keeps = c.append_is_whole.ensures.keeps;
  };
  begins_recent = c.beginning_is_safe.ensures.recent;
  begins_second = c.beginning_is_safe.ensures.second;
  opening_format = c.opening_is_safe.ensures.format;
  clear_format = c.clear_is_safe.ensures.format;
  clear_mark = c.clear_is_safe.ensures.mark;
  append_mark = c.append_is_whole.ensures.mark;
  second = c.upgrade_is_safe.ensures.second;
})
