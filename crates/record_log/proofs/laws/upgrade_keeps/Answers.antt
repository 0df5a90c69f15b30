use Rattle.record_log.proofs.Upgrading.{upgraded_keeps}
use Rattle.record_log.proofs.laws.upgrade_keeps.Goals as goal

pub returns : goal.returns
returns c = upgraded_keeps c.one_list.ensures c.logs_are_lists.ensures.placed
