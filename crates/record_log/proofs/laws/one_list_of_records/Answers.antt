use Rattle.record_log.proofs.Holding.{one_list_held}
use Rattle.record_log.proofs.laws.one_list_of_records.Goals as goal

pub returns : goal.returns
returns c = one_list_held c.one_list.ensures c.one_record.ensures
