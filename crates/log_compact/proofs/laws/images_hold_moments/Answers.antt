use Rattle.log_compact.proofs.OnDevices.{images_hold}
use Rattle.log_compact.proofs.laws.images_hold_moments.Goals as goal

pub returns : goal.returns
returns c = images_hold (record {
  settles = c.images_of_settled.ensures;
  lists = c.logs_are_lists.ensures.at;
  clears = c.clear_is_safe.ensures.gives;
  clear_keeps = c.clear_is_safe.ensures.keeps;
  upgrades = c.upgrade_is_safe.ensures.gives;
  upgrade_keeps = c.upgrade_is_safe.ensures.keeps;
  appends = c.append_is_whole.ensures.gives;
  append_keeps = c.append_is_whole.ensures.keeps;
})
