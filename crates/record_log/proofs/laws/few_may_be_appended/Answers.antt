use Rattle.record_log.proofs.Sizes.{few_may, few_take_little}
use Rattle.record_log.proofs.laws.few_may_be_appended.Goals as goal

pub returns : goal.returns
returns c = record { may = few_may c.records_are_short.ensures; little = few_take_little c.records_are_short.ensures }
