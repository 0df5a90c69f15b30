use Rattle.record_log.proofs.Holding.{log_holds}
use Rattle.record_log.proofs.Spelling.{items_each}
use Rattle.record_log.proofs.laws.records_are_held.Goals as goal

pub returns : goal.returns
returns c = record { items = items_each; log = log_holds c.logs_are_lists.ensures.at }
