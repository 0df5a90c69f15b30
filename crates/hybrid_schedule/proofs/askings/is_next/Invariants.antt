use Rattle.std.proofs.Common.{◌≡◌, true, drop}
use Rattle.protocol.specs.Words.{is_batch_entry, is_complete_batch}
use Rattle.hybrid_schedule.specs.Schedules.{is_next_here}
use Rattle.hybrid_schedule.proofs.Reaching.{reaches}
use Rattle.hybrid_schedule.proofs.askings.is_next.Given as goal

abbrev pub invariant-loop-e : goal.invariant-loop-e
invariant-loop-e l = is_next_here l.k.0 l.entries ≡ reaches (is_batch_entry l.k.0) is_complete_batch true (drop l.e-index l.entries)
