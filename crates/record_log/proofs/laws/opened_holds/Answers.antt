use Rattle.record_log.proofs.Holding.{held_before, held_after}
use Rattle.record_log.proofs.laws.opened_holds.Goals as goal

pub returns : goal.returns
returns c = record { before = held_before c.logs_are_lists.ensures.placed; after = held_after }
