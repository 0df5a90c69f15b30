use Rattle.record_log.proofs.Holding.{never_foreign, never_damaged, never_bad_in}
use Rattle.record_log.proofs.laws.no_more_records.Goals as goal

pub returns : goal.returns
returns c = record {
  foreign = never_foreign c.one_difference.ensures.no_log;
  damaged = never_damaged c.damage_is_no_log.ensures;
  bad = never_bad_in c.logs_are_lists.ensures.placed c.one_list.ensures;
}
